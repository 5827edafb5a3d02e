use Rattle.std.proofs.Common.{ap, refl, ◌∙◌}
use Rattle.std.proofs.lemmas.Result.{IfOk-weaker}
use Rattle.realm.specs.body.Transitions.{made_with}
use Rattle.realm.proofs.publications.publish.Goals as goal

pub returns-in-Err-clause-ok : goal.returns-in-Err-clause-ok
returns-in-Err-clause-ok c =
    IfOk-weaker c.refused.result _ _
    (λ given is w there. rw (c.accepted.ensures.answer c.args.asked.word w ∙ ap (made_with c.args.asked.word w) c.in-Err.is)
    (is, refl))
    c.refused.ensures

pub retain-requires : goal.retain-requires
retain-requires c = rw (c.in_ok-made-2.ensures, c.in_ok-made.ensures) ((rw c.in-Ok.is at c.accepted.ensures.room) c.if-retained.true)
