use Rattle.std.proofs.Common.{◌≡◌, take}
use Rattle.std.specs.List.{AllByRecursion}
use Rattle.message_tree.specs.View.{items_view}
use Rattle.wamp_ids.specs.Numbers.{IsId}
use Rattle.client_messages.specs.Wishes.{numbers}
use Rattle.client_messages.proofs.wishes.numbers.Given as goal

-- the numbers that were passed are in the list, and are ids
abbrev pub invariant-loop-one : goal.invariant-loop-one
invariant-loop-one l =
    (items_view l.trees.items ≡ numbers (take l.one-index l.one-items)) × AllByRecursion IsId (take l.one-index l.one-items)
