use Rattle.std.proofs.Common.{◌≡◌, ◌+◌, ◌*◌, ◌≤◌, ◌++◌, drop, true}
use Rattle.json.specs.Tree.{items_tokens, members_tokens}
use Rattle.serde_json.specs.Written.{items_outline, members_outline}
use Rattle.message_tree.specs.Data.{depth, items_depth, entries_depth, items_carried, entries_carried}
use Rattle.message_tree.specs.View.{view, dict_view, items_view, entries_view}
use Rattle.json_codec.specs.Encoder.{items_value, entries_value}
use Rattle.json_codec.proofs.encoder.+write.Given as goal

abbrev pub decreases-write_tree : goal.decreases-write_tree
decreases-write_tree l = 2 * depth (view l.tree.now)

abbrev pub decreases-write_items : goal.decreases-write_items
decreases-write_items l = 2 * items_depth (items_view l.items.now.items) + 1

abbrev pub decreases-write_entries : goal.decreases-write_entries
decreases-write_entries l = 2 * entries_depth (dict_view l.dict.now) + 1

abbrev pub invariant-write_items-loop-item : goal.invariant-write_items-loop-item
invariant-write_items-loop-item l = record {
  carried : items_carried (items_view (drop l.item-index l.items.items)) ≡ true;
  before : l.out.before ≡ l.initial.out.before;
  written : l.out.tokens ++ items_tokens (items_outline (items_value (items_view (drop l.item-index l.items.items))))
      ≡ l.initial.out.tokens ++ items_tokens (items_outline (items_value (items_view l.items.items)));
}

abbrev pub invariant-write_entries-loop-key : goal.invariant-write_entries-loop-key
invariant-write_entries-loop-key l = record {
  depth : entries_depth (entries_view l.key-iterator) ≤ entries_depth (dict_view l.dict);
  carried : entries_carried (entries_view l.key-iterator) ≡ true;
  before : l.out.before ≡ l.initial.out.before;
  written : l.out.tokens ++ members_tokens (members_outline (entries_value (entries_view l.key-iterator)))
      ≡ l.initial.out.tokens ++ members_tokens (members_outline (entries_value (dict_view l.dict)));
}
