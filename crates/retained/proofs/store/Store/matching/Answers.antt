use Rattle.std.proofs.Common.{ap, ◌∙◌}
use Rattle.std.proofs.lemmas.List.{take_all}
use Rattle.std.specs.List.{filter}
use Rattle.wamp_ids.specs.Pattern.{matches}
use Rattle.retained.proofs.StoreLemmas.{AreByTopic-filter}
use Rattle.retained.proofs.store.Store.matching.Goals as goal

pub returns-clause-found : goal.returns-clause-found
returns-clause-found c =
    let whole = take_all c.loop-kept.kept-index c.candidates-kept-items.result.now c.loop-kept-test.false in
    c.loop-kept.invariant
    ∙ ap (filter (λ p. matches c.args.pattern.now p.topic)) whole
    ∙ c.candidates-kept-items.ensures
    ∙ ap (filter (λ p. matches c.args.pattern.now p.topic)) (c.deref.ensures.value ∙ c.self.view_is)

pub returns-clause-order : goal.returns-clause-order
returns-clause-order c =
    let whole = take_all c.loop-kept.kept-index c.candidates-kept-items.result.now c.loop-kept-test.false in
    rw (c.loop-kept.invariant, whole, c.candidates-kept-items.ensures, c.deref.ensures.value)
    (AreByTopic-filter (λ p. matches c.args.pattern.now p.topic) c.self.inside.publications.items c.self.invariant.ordered)
