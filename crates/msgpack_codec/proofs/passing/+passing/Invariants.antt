use Rattle.std.proofs.Common.{◌≡◌, ◌+◌, ◌-◌, ◌*◌, ℕ, List, ◌++◌, Bool, true, option_map}
use Rattle.message_tree.specs.Data.{Items, no_items, Entries, no_entries}
use Rattle.msgpack_codec.specs.Written.{items_carriage}
use Rattle.msgpack_codec.specs.body.Writable.{items_writable}
use Rattle.msgpack_codec.specs.Short.{item_count, items_short}
use Rattle.msgpack_codec.specs.body.Decoder.{items_at}
use Rattle.msgpack_codec.specs.body.Passing.{written_at, pairs_at, AreKnown, Tells}
use Rattle.msgpack_codec.proofs.Judgements.{AreTold}
use Rattle.msgpack_codec.proofs.passing.+passing.Given as goal

abbrev pub decreases-value : goal.decreases-value
decreases-value l = 4 * l.room

abbrev pub decreases-member : goal.decreases-member
decreases-member l = 4 * l.room + 1

abbrev pub decreases-nest : goal.decreases-nest
decreases-nest l = 4 * l.room + 3

abbrev pub decreases-items : goal.decreases-items
decreases-items l = 4 * l.room + 2

abbrev pub decreases-pairs : goal.decreases-pairs
decreases-pairs l = 4 * l.room + 2

abbrev pub invariant-items-loop : goal.invariant-items-loop
invariant-items-loop l =
    (found : Items) × (items_at (written_at l.room) (l.count - l.counter) found l.rest ≡ items_at (written_at l.room) l.count no_items l.octets) × (l.carriage ≡ items_carriage found)
    × ((front : List ℕ) × (l.octets ≡ front ++ l.rest) × (item_count found ≡ l.counter) × Tells l.is_shortest (items_writable found) front (items_short found))

abbrev pub invariant-pairs-loop : goal.invariant-pairs-loop
invariant-pairs-loop l =
    (found : Entries) × (texts : Bool) × (pairs_at (written_at l.room) (l.count - l.counter) found texts l.rest ≡ pairs_at (written_at l.room) l.count no_entries true l.octets)
    × AreKnown l.known.are_texts l.known.ascend (option_map (λ t. t.now) l.known.last) l.known.carriage found texts
    × ((front : List ℕ) × (l.octets ≡ front ++ l.rest) × AreTold texts l.counter l.is_shortest front found)
