use Rattle.std.proofs.Common.{◌≡◌, take}
use Rattle.message_tree.specs.View.{items_view}
use Rattle.client_messages.specs.Wishes.{texts}
use Rattle.client_messages.proofs.wishes.texts.Given as goal

-- the texts that were passed are in the list
abbrev pub invariant-loop-one : goal.invariant-loop-one
invariant-loop-one l = items_view l.trees.items ≡ texts (take l.one-index l.one-items)
