use Rattle.std.proofs.Common.{◌&&◌, ap, ◌∙◌}
use Rattle.std.proofs.lemmas.List.{take_all}
use Rattle.std.specs.List.{filter}
use Rattle.wamp_ids.specs.Pattern.{matches}
use Rattle.eligibility.specs.Lists.{admits}
use Rattle.retained.proofs.StoreLemmas.{filter_twice}
use Rattle.retained.proofs.store.Store.admitting.Goals as goal

pub returns : goal.returns
returns c =
    let candidates = c.candidates-kept-items.result.now in
    let whole = take_all c.loop-kept.kept-index candidates c.loop-kept-test.false in
    c.loop-kept.invariant
    ∙ ap (filter (λ p. matches c.args.pattern.now p.topic && admits p.lists c.args.who.now p.publisher)) whole
    ∙ filter_twice (λ p. matches c.args.pattern.now p.topic) (λ p. admits p.lists c.args.who.now p.publisher) candidates
    ∙ ap (filter (λ p. admits p.lists c.args.who.now p.publisher))
    (c.candidates-kept-items.ensures ∙ ap (filter (λ p. matches c.args.pattern.now p.topic)) (c.deref.ensures.value ∙ c.self.view_is))
