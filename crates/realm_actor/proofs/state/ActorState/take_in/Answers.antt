use Rattle.std.proofs.Common.{refl, ap, ◌∙◌, subst, ◌∷◌}
use Rattle.realm_actor.specs.Tables.{standing, EachMarked}
use Rattle.realm_actor.specs.Cuts.{Accepted}
use Rattle.realm_actor.proofs.FoundFull.{ready_live}
use Rattle.realm_actor.proofs.TableInvariant.{keeps_on}
use Rattle.realm_actor.specs.Words.{◌⊕◌}
use Rattle.realm_actor.proofs.state.ActorState.take_in.Goals as goal

pub accept-requires-clause-ready : goal.accept-requires-clause-ready
accept-requires-clause-ready g c = ready_live c.args.self.now.table.realm c.args.entry c.args.conn c.args.self.now.table.rows.items c.requires.own c.requires.live c.requires.sound c.requires.uncut

pub returns-in-Err-clause-outcome : goal.returns-in-Err-clause-outcome
returns-in-Err-clause-outcome g c =
    let a = c.args.self.now in
    let t = c.lose.ensures.lost in
    let same = c.in-Err.ensures.err in (
      t.0,
      t.1,
      t.2,
      t.3,
      t.4,
      subst (λ x. EachMarked c.args.conn x.rows.items t.3) same t.5,
      subst (λ x. Accepted (record (standing x) { rows = t.3 }) t.2 t.1 (standing c.lose.new.self)) same t.6,
      t.7 ∙ ap (λ w. g.W.IdSource.given w ⊕ (t.0 ∷ t.1)) c.in-Err.ensures.words,
    )

pub returns-in-Ok-clause-keeps : goal.returns-in-Ok-clause-keeps
returns-in-Ok-clause-keeps g c = record { handled = refl; table = c.accept.ensures.keeps }

pub returns-in-Err-clause-keeps : goal.returns-in-Err-clause-keeps
returns-in-Err-clause-keeps g c = record { handled = refl; table = keeps_on c.accept.ensures.keeps c.lose.ensures.keeps }
