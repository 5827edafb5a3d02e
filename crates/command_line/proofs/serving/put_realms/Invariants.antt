use Rattle.std.proofs.Common.{◌≡◌, ◌++◌, drop}
use Rattle.command_line.specs.Served.{realm_lines}
use Rattle.command_line.proofs.serving.put_realms.Given as goal

abbrev pub invariant-loop-realm : goal.invariant-loop-realm
invariant-loop-realm l = l.fn.lines.items ++ realm_lines l.realms ≡ l.lines.items ++ realm_lines (drop l.realm-index l.realms)
