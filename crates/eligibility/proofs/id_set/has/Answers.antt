use Rattle.std.proofs.Common.{◌||◌, ◌==◌, sym, ap, ◌∙◌, subst}
use Rattle.std.specs.Ordering.{nat_cmp}
use Rattle.std.specs.List.{list_any}
use Rattle.std.specs.List.Sorted.{IsStrictlySortedBy}
use Rattle.eligibility.proofs.NumberRanks.{found-number}
use Rattle.eligibility.proofs.id_set.has.Goals as goal

pub returns-else-contains : goal.returns-else-contains
returns-else-contains c =
    let large = c.args.ids.now.large.items in
    let ordered = subst (IsStrictlySortedBy nat_cmp) (sym c.deref.ensures.value) c.requires in
    c.is_ok.ensures.value ∙ (found-number c.deref.result.now c.args.id c.binary_search.result ordered c.binary_search.ensures.position c.binary_search.ensures.bound
    ∙ (ap (λ xs. list_any (λ n. n == c.args.id) xs) c.deref.ensures.value ∙ ap (λ b. b || list_any (λ n. n == c.args.id) large) c.if-contains.ensures))
