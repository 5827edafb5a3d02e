use Rattle.std.proofs.Common.{◌≡◌, ◌+◌, ◌-◌, ◌*◌, true}
use Rattle.message_tree.specs.Data.{no_items, no_entries}
use Rattle.message_tree.specs.View.{items_view, dict_view}
use Rattle.msgpack_codec.specs.body.Decoder.{value_at, items_at, dict_at}
use Rattle.msgpack_codec.proofs.decoder.+value.Given as goal

abbrev pub decreases-value : goal.decreases-value
decreases-value l = 3 * l.room

abbrev pub decreases-nest : goal.decreases-nest
decreases-nest l = 3 * l.room + 2

abbrev pub decreases-items : goal.decreases-items
decreases-items l = 3 * l.room + 1

abbrev pub decreases-dict : goal.decreases-dict
decreases-dict l = 3 * l.room + 1

abbrev pub invariant-items-loop : goal.invariant-items-loop
invariant-items-loop l = items_at (value_at l.room) (l.count - l.counter) (items_view l.found.items) l.rest ≡ items_at (value_at l.room) l.count no_items l.octets

abbrev pub invariant-dict-loop : goal.invariant-dict-loop
invariant-dict-loop l = dict_at (value_at l.room) (l.count - l.counter) (dict_view l.found) l.texts l.rest ≡ dict_at (value_at l.room) l.count no_entries true l.octets
