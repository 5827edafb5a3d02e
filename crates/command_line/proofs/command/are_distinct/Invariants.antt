use Rattle.std.proofs.Common.{◌≡◌, drop}
use Rattle.command_line.specs.Commands.{are_distinct}
use Rattle.command_line.proofs.command.are_distinct.Given as goal

abbrev pub invariant-loop-i : goal.invariant-loop-i
invariant-loop-i l = are_distinct l.realms ≡ are_distinct (drop l.i l.realms)
