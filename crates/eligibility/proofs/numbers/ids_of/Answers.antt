use Rattle.std.specs.Int.{w128}
use Rattle.std.proofs.Common.{◌∷◌, [], ◌++◌, ◌||◌, ap, ◌∙◌, rules, FitsSigned}
use Rattle.std.proofs.lemmas.Int.{to_z-of_z}
use Rattle.eligibility.specs.Options.{each_of, with_first, number_of}
use Rattle.eligibility.specs.Lists.{is_number}
use Rattle.eligibility.specs.body.IdSet.{holds}
use Rattle.eligibility.proofs.ListItems.{after, after-first}
use Rattle.eligibility.proofs.Standing.{held-more}
use Rattle.eligibility.proofs.numbers.ids_of.Goals as goal

pub loop-item-preserved : goal.loop-item-preserved
loop-item-preserved c =
    let so = c.loop-item.invariant in
    let z = c.in_ok-number_of.field-0 in
    let fits : FitsSigned w128 z = search rules in
    let left = each_of number_of c.next.new.self in (
      so.0 ++ z ∷ [],
      so.1 ∙ (ap (λ ds. after so.0 (each_of number_of ds)) c.in-Some.ensures ∙ (ap (λ o. after so.0 (with_first o left)) c.in_ok-number_of.ensures.ok ∙ after-first so.0 z left)),
      λ q lt. held-more (holds c.loop-item.ids) (holds c.add.new.ids) q so.0 z (so.2 q lt) (c.in_ok-add.ensures q lt ∙ ap (λ y. is_number q y || holds c.loop-item.ids q) (to_z-of_z w128 z fits)),
    )
