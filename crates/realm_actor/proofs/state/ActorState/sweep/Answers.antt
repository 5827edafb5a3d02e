use Rattle.std.proofs.Common.{ap, ◌∙◌, refl, sym, subst}
use Rattle.realm.specs.Sessions.{live}
use Rattle.realm_actor.specs.Rows.{EachHome}
use Rattle.realm_actor.proofs.Homes.{home_swept}
use Rattle.realm_actor.proofs.TableInvariant.{knows_same, knows_swept, none_swept}
use Rattle.realm_actor.proofs.state.ActorState.sweep.Goals as goal

pub returns-then-not-has_ended-clause-rows : goal.returns-then-not-has_ended-clause-rows
returns-then-not-has_ended-clause-rows g c = none_swept c.args.self.now.table.realm c.args.self.now.table.rows.items (c.requires.knows.ended c.if-not-has_ended.true)

pub returns-then-not-has_ended-clause-keeps : goal.returns-then-not-has_ended-clause-keeps
returns-then-not-has_ended-clause-keeps g c = record { handled = refl; table = record { chronicle = refl; knows = knows_same c.args.self.now.table _ refl refl refl refl } }

pub returns-clause-keeps : goal.returns-clause-keeps
returns-clause-keeps g c = record {
  handled = refl;
  table = record { chronicle = ap (λ k. k.chronicle) c.sweep.ensures.kept; knows = knows_swept c.args.self.now.table _ c.sweep.ensures.rows refl refl };
}

pub invariant_of-self-2 : goal.invariant_of-self-2
invariant_of-self-2 g c =
    let table = c.args.self.now.table in
    let own = table.chronicle.chronicle in
    let kept = c.sweep.ensures.kept in
    let home = subst (λ l. EachHome own l) (sym c.sweep.ensures.rows) (home_swept own (λ r. live table.realm r.conn) table.rows.items table.home) in
    record { told = ap (λ k. k.history) kept ∙ table.told; home = subst (λ name. EachHome name c.sweep.new.rows.items) (sym (ap (λ k. k.chronicle) kept)) home }
