use Rattle.std.proofs.Common.{◌≡◌, ◌+◌, ◌-◌, ◌≤◌, length, drop}
use Rattle.std.specs.List.{prefix_len}
use Rattle.json.specs.Run.{is_plain}
use Rattle.json_to_msgpack.proofs.scan.plain_end.Given as goal

abbrev pub invariant-pieces : goal.invariant-pieces
invariant-pieces l = (l.at ≤ length l.octets) × (l.at + prefix_len is_plain (drop l.at l.octets) ≡ l.from + prefix_len is_plain (drop l.from l.octets))

abbrev pub decreases-pieces : goal.decreases-pieces
decreases-pieces l = length l.octets - l.at
