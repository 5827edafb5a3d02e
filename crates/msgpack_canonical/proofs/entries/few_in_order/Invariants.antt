use Rattle.std.proofs.Common.{◌≡◌, take, reverse}
use Rattle.msgpack_canonical.specs.body.Entries.{place_cmp}
use Rattle.msgpack_canonical.specs.body.Sorting.{in_order}
use Rattle.msgpack_canonical.proofs.entries.few_in_order.Given as goal

abbrev pub invariant-loop-place : goal.invariant-loop-place
invariant-loop-place l = l.sorted.items ≡ in_order (place_cmp l.written) (reverse (take l.place-index l.places))
