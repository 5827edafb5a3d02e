use Rattle.std.proofs.Common.{◌≡◌, drop}
use Rattle.command_line.specs.Commands.{is_among}
use Rattle.command_line.proofs.command.is_among.Given as goal

abbrev pub invariant-loop-realm : goal.invariant-loop-realm
invariant-loop-realm l = is_among l.name l.realms ≡ is_among l.name (drop l.realm-index l.realms)
