use Rattle.std.proofs.Common.{◌≡◌, take}
use Rattle.msgpack_codec.proofs.shortest.are_same.Given as goal

abbrev pub invariant-loop-at : goal.invariant-loop-at
invariant-loop-at l = take l.at l.octets ≡ take l.at l.others
