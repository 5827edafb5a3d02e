use Rattle.std.proofs.Common.{◌≡◌, ◌+◌, ◌-◌, ◌*◌, ◌++◌, ◌&&◌, ◌^◌, ltb, reverse, true}
use Rattle.message_tree.specs.Data.{Items, Entries, no_items, no_entries}
use Rattle.msgpack_codec.specs.Short.{list_head, item_count, items_short}
use Rattle.msgpack_codec.specs.body.Decoder.{value_at, items_at, dict_at}
use Rattle.msgpack_canonical.specs.body.Fitting.{items_fit}
use Rattle.msgpack_canonical.specs.body.Entries.{AreKept}
use Rattle.msgpack_canonical.proofs.writing.+writing.Given as goal

abbrev pub decreases-put_value : goal.decreases-put_value
decreases-put_value l = 5 * l.room

abbrev pub decreases-put_list : goal.decreases-put_list
decreases-put_list l = 5 * l.room + 1

abbrev pub decreases-put_entry : goal.decreases-put_entry
decreases-put_entry l = 5 * l.room + 1

abbrev pub decreases-entries_of : goal.decreases-entries_of
decreases-entries_of l = 5 * l.room + 2

abbrev pub decreases-put_any_dict : goal.decreases-put_any_dict
decreases-put_any_dict l = 5 * l.room + 3

abbrev pub decreases-put_dict : goal.decreases-put_dict
decreases-put_dict l = 5 * l.room + 4

abbrev pub invariant-put_list-loop : goal.invariant-put_list-loop
invariant-put_list-loop l = record {
  found : Items;
  read : items_at (value_at l.room) (l.count - l.counter) found l.rest ≡ items_at (value_at l.room) l.count no_items l.octets;
  many : item_count found ≡ l.counter;
  fit : l.is_written ≡ (ltb l.count (2 ^ 32) && items_fit found);
  written : l.is_written ≡ true → l.out.since ≡ l.fn.out.since ++ (list_head l.count ++ items_short found);
  before : l.out.before ≡ l.fn.out.before;
}

abbrev pub invariant-entries_of-loop : goal.invariant-entries_of-loop
invariant-entries_of-loop l = record {
  found : Entries;
  read : dict_at (value_at l.room) (l.count - l.counter) found l.are_texts l.rest ≡ dict_at (value_at l.room) l.count no_entries true l.octets;
  kept : AreKept l.written.items (reverse l.places.items) found;
}
