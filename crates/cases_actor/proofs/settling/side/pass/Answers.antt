use Rattle.std.proofs.Common.{refl, sym, ap, ◌∙◌}
use Rattle.realm_actor.specs.ActorView.{Acting}
use Rattle.realm_actor.specs.LastCut.{outbox_of}
use Rattle.case_posts.specs.declared.wire.Wire.{Wire}
use Rattle.cases_actor.proofs.SideLemmas.{sits_there, sat_down}
use Rattle.cases_actor.proofs.settling.side.pass.Goals as goal

pub returns-in_err-outcome-clause-other : goal.returns-in_err-outcome-clause-other
returns-in_err-outcome-clause-other g c = c.keep_up.ensures.side c.args.desk.now c.pass-passed.ensures.goes_on c.requires.other

pub returns-clause-other : goal.returns-clause-other
returns-clause-other g c = c.keep_up.ensures.side c.args.desk.now c.pass-passed.ensures.goes_on c.requires.other

pub returns-clause-side : goal.returns-clause-side
returns-clause-side g c =
    let own = (sits_there c.args.desk.now c.args.side.now c.in_ok-poster.poster (sym c.in_ok-poster.ensures.value) c.requires.side).0 in
    sat_down c.args.desk.now c.pass-passed.new.self c.keep_up.new.desk c.args.side.now _ c.in_ok-outcome.poster c.pass-passed.ensures.goes_on c.keep_up.ensures.desk refl refl refl
    (c.in_ok-outcome.ensures.poster.0 ∙ own) c.in_ok-outcome.ensures.poster.1 c.requires.side

pub returns-clause-joined : goal.returns-clause-joined
returns-clause-joined g c = λ joining joins applied.
    let own = (sits_there c.args.desk.now c.args.side.now c.in_ok-poster.poster (sym c.in_ok-poster.ensures.value) c.requires.side).0 in
    let b = c.in_ok-outcome.ensures.joined joining joins applied in
    (b.0, ap (λ (a : Acting Wire). outbox_of a.rows c.args.side.now.conn) c.keep_up.ensures.desk.0 ∙ ap (λ k. outbox_of c.pass-passed.new.self.actor.rows k) (sym own) ∙ b.1, b.2)
