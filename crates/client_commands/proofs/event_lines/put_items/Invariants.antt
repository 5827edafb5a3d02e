use Rattle.std.proofs.Common.{◌≡◌, ◌++◌, drop, true}
use Rattle.message_tree.specs.Data.{items_carried}
use Rattle.message_tree.specs.View.{items_view}
use Rattle.client_commands.specs.EventLine.{spaced}
use Rattle.client_commands.proofs.event_lines.put_items.Given as goal

abbrev pub invariant-items : goal.invariant-items
invariant-items l = record {
  carried : items_carried (items_view (drop l.item-index l.item-items)) ≡ true;
  put : l.fn.out.since ++ spaced (items_view l.item-items) ≡ l.out.since ++ spaced (items_view (drop l.item-index l.item-items));
  before : l.out.before ≡ l.fn.out.before;
}
