use Rattle.std.proofs.Common.{◌≡◌, ◌+◌, ◌-◌, ◌≤◌, length, drop}
use Rattle.std.specs.List.{prefix_len}
use Rattle.std.specs.Char.{is_ascii_digit}
use Rattle.json_to_msgpack.proofs.scan.digits_end.Given as goal

abbrev pub invariant-digits : goal.invariant-digits
invariant-digits l = (l.at ≤ length l.octets) × (l.at + prefix_len is_ascii_digit (drop l.at l.octets) ≡ l.from + prefix_len is_ascii_digit (drop l.from l.octets))

abbrev pub decreases-digits : goal.decreases-digits
decreases-digits l = length l.octets - l.at
