use Rattle.std.proofs.Common.{◌≡◌, ◌++◌, map}
use Rattle.std.specs.Vec.Iter.{into_iter_items}
use Rattle.message_tree.specs.View.{view, dict_view, entries_by}
use Rattle.message_tree.specs.Data.{joined}
use Rattle.json_codec.proofs.Trees.{tree_at}
use Rattle.json_codec.proofs.decoder.+tree.Given as goal

abbrev pub invariant-tree_of_items-loop-item : goal.invariant-tree_of_items-loop-item
invariant-tree_of_items-loop-item l = record {
  made : map view l.made.items ≡ map tree_at l.yielded;
  left : l.fn.items.items ≡ l.yielded ++ into_iter_items l.item-iterator;
}

-- what was made, and then what is left
abbrev pub invariant-tree_of_members-loop-key : goal.invariant-tree_of_members-loop-key
invariant-tree_of_members-loop-key l = entries_by tree_at l.fn.members.entries ≡ joined (dict_view l.made) (entries_by tree_at l.key-iterator)
