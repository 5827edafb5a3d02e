use Rattle.std.proofs.Common.{rules, sym, ap, ◌∙◌, subst}
use Rattle.std.specs.Ordering.{is_lt, eq_by_cmp}
use Rattle.std.specs.Cmp.{IsTotalOrder}
use Rattle.std.specs.List.{All}
use Rattle.std.proofs.lemmas.Cmp.{nat_list_cmp_total, on_total}
use Rattle.std.proofs.lemmas.Fn.{always_returns_same, dedup_same}
use Rattle.std.proofs.lemmas.List.Sorted.{ranks_by, All-permutation}
use Rattle.msgpack_canonical.specs.declared.entries.EntryPlace.{EntryPlace}
use Rattle.msgpack_canonical.specs.body.Entries.{IsStanding, entry_in, place_cmp}
use Rattle.msgpack_canonical.specs.body.Sorting.{in_order}
use Rattle.msgpack_canonical.proofs.Sorting.{sorted-dedup, All-dedup}
use Rattle.msgpack_canonical.proofs.Placing.{All-in_order}
use Rattle.std.proofs.Common.{reverse}
use Rattle.msgpack_canonical.proofs.entries.put_in_order.Goals as goal

pub returns-clause-order : goal.returns-clause-order
returns-clause-order c =
    let written = c.args.written.now in
    let key = λ (p : EntryPlace). (entry_in written p).0 in
    let total : IsTotalOrder (place_cmp written) = on_total key nat_list_cmp_total in
    let lt = λ (p q : EntryPlace). is_lt (place_cmp written p q) in
    let ranks = ranks_by nat_list_cmp_total key in
    let sorted = c.in_ok-sort_by.ensures.sorted lt ranks (always_returns_same _ _ _ (λ a r f k. search rules)) in
    let stable = c.in_ok-sort_by.ensures.stable lt ranks (always_returns_same _ _ _ (λ a r f k. search rules)) in
    let left = dedup_same _ (eq_by_cmp (place_cmp written)) _ (λ x y b f p q k. search rules) _ _ c.dedup_by.ensures.filtered in
    left ∙ (sorted-dedup total _ _ sorted stable ∙ ap (in_order (place_cmp written)) c.reverse.ensures.items)

pub returns-clause-stand : goal.returns-clause-stand
returns-clause-stand c =
    let written = c.args.written.now in
    let left = dedup_same _ (eq_by_cmp (place_cmp written)) _ (λ x y b f p q k. search rules) _ _ c.dedup_by.ensures.filtered in
    λ all. subst (All (IsStanding written)) (sym left) (All-dedup (IsStanding written) (eq_by_cmp (place_cmp written)) _
    (All-permutation (IsStanding written) _ _ c.in_ok-sort_by.ensures.permutation (subst (All (IsStanding written)) (sym c.reverse.ensures.items) all)))

pub returns-then-len-le-FEW-clause-stand : goal.returns-then-len-le-FEW-clause-stand
returns-then-len-le-FEW-clause-stand c =
    let written = c.args.written.now in
    let sorted = c.in_ok-places.ensures ∙ ap (λ ps. in_order (place_cmp written) (reverse ps)) c.deref.ensures.value in
    λ all. subst (All (IsStanding written)) (sym sorted) (All-in_order (place_cmp written) (IsStanding written) (reverse c.args.places.now.items) all)
