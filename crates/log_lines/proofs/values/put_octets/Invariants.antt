use Rattle.std.proofs.Common.{◌≡◌, ◌++◌, drop}
use Rattle.log_lines.specs.Values.{shown}
use Rattle.log_lines.proofs.values.put_octets.Given as goal

abbrev pub invariant-loop-octet : goal.invariant-loop-octet
invariant-loop-octet l = l.fn.line.items ++ shown l.octets ≡ l.line.items ++ shown (drop l.octet-index l.octets)
