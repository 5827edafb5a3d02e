use Rattle.std.proofs.Common.{◌≡◌, [], ◌++◌, string_bytes, refl, sym, ap, ◌∙◌, append-nil}
use Rattle.std.proofs.lemmas.List.{nil_from_length}
use Rattle.std.specs.Vec.Iter.{into_iter_items}
use Rattle.serde_json.specs.View.{items_view as values_view}
use Rattle.message_tree.specs.View.{dict_view, items_of, entries_by}
use Rattle.message_tree.specs.Data.{joined}
use Rattle.message_tree.proofs.Lemmas.{joined-none, next-put, ascending}
use Rattle.json_codec.specs.Decoder.{items_tree}
use Rattle.json_codec.proofs.Trees.{tree_at, items_tree-values_view, members_tree-members_view}
use Rattle.json_codec.proofs.decoder.+tree.Goals as goal

pub tree_of_members-loop-key-preserved : goal.tree_of_members-loop-key-preserved
tree_of_members-loop-key-preserved t c =
    let l = c.loop-key in
    let members = c.args.members.entries in
    let left = c.next.new.self in
    let up = ascending tree_at members c.into_iter-key-iterator.ensures.into_iter_gives.5 in
    let so_far = l.invariant ∙ ap (λ ms. joined (dict_view l.made) (entries_by tree_at ms)) c.in-Some.ensures.steps in
    let next = next-put (dict_view l.made) (string_bytes c.in-Some.key) (tree_at c.in-Some.member) (entries_by tree_at left) (entries_by tree_at members) so_far up in
    next ∙ ap (λ es. joined es (entries_by tree_at left)) (sym (c.in_ok-set.ensures.ok ∙ rw c.in_ok-value.ensures.ok refl))

pub tree_of_members-returns : goal.tree_of_members-returns
tree_of_members-returns t c =
    let l = c.loop-key in
    let none = ap (λ ms. joined (dict_view l.made) (entries_by tree_at ms)) c.in-None.ensures.steps.0 in
    record { ok = sym (members_tree-members_view c.args.members.entries ∙ l.invariant ∙ none ∙ joined-none (dict_view l.made)) }

pub tree_of_items-returns : goal.tree_of_items-returns
tree_of_items-returns t c =
    let l = c.loop-item in
    let rest = into_iter_items l.item-iterator in
    let none : rest ≡ [] = nil_from_length rest (sym l.item-iterator.rest.ok.0 ∙ c.in-None.ensures.steps.0) in
    let all : c.args.items.items ≡ l.yielded = l.invariant.left ∙ ap (λ vs. l.yielded ++ vs) none ∙ append-nil l.yielded in
    record { ok = ap items_of l.invariant.made ∙ sym (items_tree-values_view l.yielded) ∙ ap (λ vs. items_tree (values_view vs)) (sym all) }
