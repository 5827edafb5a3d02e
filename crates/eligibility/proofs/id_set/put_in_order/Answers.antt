use Rattle.std.proofs.Common.{◌||◌, ◌==◌, eqb, sym, ap, ◌∙◌, subst}
use Rattle.std.specs.Ordering.{nat_cmp}
use Rattle.std.specs.BTreeSet.{contains}
use Rattle.std.specs.List.{list_any}
use Rattle.std.specs.List.Sorted.{IsStrictlySortedBy}
use Rattle.std.proofs.lemmas.Cmp.{nat_cmp_total}
use Rattle.std.proofs.lemmas.List.Filters.{dedup_is}
use Rattle.std.proofs.lemmas.List.Kept.{IsStrictlySortedBy-dedup}
use Rattle.std.proofs.lemmas.List.Sorted.{list_any-IsPermutation}
use Rattle.eligibility.proofs.Repeats.{number-left, number-ties}
use Rattle.eligibility.proofs.id_set.put_in_order.Goals as goal

pub returns-clause-same : goal.returns-clause-same
returns-clause-same c = λ q.
    let sorted = c.sort_unstable.new.self.items in
    let left = c.shrink_to_fit.ensures.items ∙ dedup_is eqb sorted c.dedup.new.self.items c.dedup.ensures.filtered in
    ap (λ b. contains nat_cmp c.args.ids.now.small q || b)
    (ap (list_any (λ n. n == q)) left ∙ (number-left q sorted ∙ sym (list_any-IsPermutation (λ n. n == q) c.args.ids.now.large.items sorted c.sort_unstable.ensures.permutation)))

pub returns-clause-ordered : goal.returns-clause-ordered
returns-clause-ordered c =
    let sorted = c.sort_unstable.new.self.items in
    let left = c.shrink_to_fit.ensures.items ∙ dedup_is eqb sorted c.dedup.new.self.items c.dedup.ensures.filtered in
    subst (IsStrictlySortedBy nat_cmp) (sym left) (IsStrictlySortedBy-dedup {R = nat_cmp} nat_cmp_total {E = eqb} number-ties sorted c.sort_unstable.ensures.sorted)
