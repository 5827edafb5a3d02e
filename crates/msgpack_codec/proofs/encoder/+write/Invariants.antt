use Rattle.std.proofs.Common.{◌≡◌, ◌+◌, ◌*◌, List, ◌++◌, drop, true}
use Rattle.message_tree.specs.Data.{depth, items_depth, entries_depth, entry_count, items_carried, entries_carried}
use Rattle.message_tree.specs.View.{view, dict_view, items_view, entries_view}
use Rattle.msgpack_codec.specs.Short.{items_have_short, entries_have_short, items_short, entries_short, list_head, dict_head, item_count}
use Rattle.msgpack_codec.proofs.Members.{Entry}
use Rattle.msgpack_codec.proofs.encoder.+write.Given as goal

abbrev pub decreases-encode_into : goal.decreases-encode_into
decreases-encode_into l = 2 * depth (view l.tree.now)

abbrev pub decreases-write_items : goal.decreases-write_items
decreases-write_items l = 2 * items_depth (items_view l.items.now.items) + 1

abbrev pub decreases-write_entries : goal.decreases-write_entries
decreases-write_entries l = 2 * entries_depth (dict_view l.dict.now) + 1

abbrev pub invariant-write_items-loop-item : goal.invariant-write_items-loop-item
invariant-write_items-loop-item l = record {
  written : l.out.since ++ items_short (items_view (drop l.item-index l.items.items)) ≡ l.fn.out.since ++ (list_head (item_count (items_view l.items.items)) ++ items_short (items_view l.items.items));
  carried : items_carried (items_view (drop l.item-index l.items.items)) ≡ true;
  fits : items_have_short (items_view l.items.items) ≡ items_have_short (items_view (drop l.item-index l.items.items));
  before : l.out.before ≡ l.fn.out.before;
}

abbrev pub invariant-write_entries-loop-key : goal.invariant-write_entries-loop-key
invariant-write_entries-loop-key l = record {
  done : List Entry;
  all : dict_view l.dict ≡ entries_view (done ++ l.key-iterator);
  written : l.out.since ++ entries_short (entries_view l.key-iterator) ≡ l.fn.out.since ++ (dict_head (entry_count (dict_view l.dict)) ++ entries_short (dict_view l.dict));
  carried : entries_carried (entries_view l.key-iterator) ≡ true;
  fits : entries_have_short (dict_view l.dict) ≡ entries_have_short (entries_view l.key-iterator);
  before : l.out.before ≡ l.fn.out.before;
}
