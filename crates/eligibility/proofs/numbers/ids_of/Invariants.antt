use Rattle.std.proofs.Common.{◌≡◌, ℕ, ℤ, ◌<◌, ◌^◌, List}
use Rattle.msgpack_codec.specs.Short.{item_count}
use Rattle.eligibility.specs.Options.{each_of, number_of}
use Rattle.eligibility.specs.Lists.{has_number}
use Rattle.eligibility.specs.body.IdSet.{holds}
use Rattle.eligibility.proofs.ListItems.{after}
use Rattle.eligibility.proofs.numbers.ids_of.Given as goal

abbrev pub invariant-loop-item : goal.invariant-loop-item
invariant-loop-item l =
    (done : List ℤ) × (each_of number_of l.fn.items ≡ after done (each_of number_of l.items)) × ((q : ℕ) → q < 2 ^ 64 → has_number q done ≡ holds l.ids q)

abbrev pub decreases-loop-item : goal.decreases-loop-item
decreases-loop-item l = item_count l.items
