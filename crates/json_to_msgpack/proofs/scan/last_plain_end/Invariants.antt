use Rattle.std.proofs.Common.{◌≡◌, ◌+◌, ◌-◌, ◌≤◌, length, drop}
use Rattle.std.specs.List.{prefix_len}
use Rattle.json.specs.Run.{is_plain}
use Rattle.json_to_msgpack.proofs.scan.last_plain_end.Given as goal

abbrev pub invariant-plain : goal.invariant-plain
invariant-plain l = (l.at ≤ length l.octets) × (l.at + prefix_len is_plain (drop l.at l.octets) ≡ l.from + prefix_len is_plain (drop l.from l.octets))

abbrev pub decreases-plain : goal.decreases-plain
decreases-plain l = length l.octets - l.at
