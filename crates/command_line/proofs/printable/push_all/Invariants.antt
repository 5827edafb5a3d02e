use Rattle.std.proofs.Common.{◌≡◌, ◌++◌, drop}
use Rattle.command_line.specs.Reasons.{shown}
use Rattle.command_line.proofs.printable.push_all.Given as goal

abbrev pub invariant-loop-octet : goal.invariant-loop-octet
invariant-loop-octet l = l.fn.line.items ++ shown l.octets ≡ l.line.items ++ shown (drop l.octet-index l.octets)
