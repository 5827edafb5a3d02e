use Rattle.std.proofs.Common.{rules, refl, sym, ap, ◌∙◌, subst}
use Rattle.std.specs.Ordering.{is_lt, eq_by_cmp}
use Rattle.std.specs.Str.{bytes_eq}
use Rattle.std.proofs.lemmas.Cmp.{nat_list_cmp_total}
use Rattle.std.proofs.lemmas.Fn.{always_returns_same, dedup_same}
use Rattle.std.proofs.lemmas.List.Kept.{IsStrictlySortedBy-dedup}
use Rattle.std.proofs.lemmas.List.Sorted.{ranks_by, list_any-IsPermutation}
use Rattle.eligibility.specs.body.Standing.{text_at, place_cmp, stands, IsOrdered}
use Rattle.eligibility.proofs.Ranks.{places-total}
use Rattle.eligibility.proofs.Repeats.{text-left}
use Rattle.eligibility.proofs.places.put_in_order.Goals as goal

pub returns-clause-same : goal.returns-clause-same
returns-clause-same c = λ text.
    let octets = c.args.octets.now in
    let left = dedup_same _ (eq_by_cmp (place_cmp octets)) _ (λ x y b f p q k. search rules) _ _ c.dedup_by.ensures.filtered in
    ap (λ ps. stands octets ps text) (c.shrink_to_fit.ensures.items ∙ left) ∙ (text-left octets _ text
    ∙ sym (list_any-IsPermutation (λ p. bytes_eq (text_at octets p) text) _ _ c.sort_unstable_by.ensures.permutation))

pub returns-clause-ordered : goal.returns-clause-ordered
returns-clause-ordered c =
    let octets = c.args.octets.now in
    let left = dedup_same _ (eq_by_cmp (place_cmp octets)) _ (λ x y b f p q k. search rules) _ _ c.dedup_by.ensures.filtered in
    let sorted = c.sort_unstable_by.ensures.sorted (λ p q. is_lt (place_cmp octets p q)) (ranks_by nat_list_cmp_total (text_at octets)) (always_returns_same _ _ _ (λ a r f k. search rules)) in
    subst (IsOrdered octets) (sym (c.shrink_to_fit.ensures.items ∙ left))
    (IsStrictlySortedBy-dedup {R = place_cmp octets} (places-total octets) {E = eq_by_cmp (place_cmp octets)} (λ x y. refl) _ sorted)
