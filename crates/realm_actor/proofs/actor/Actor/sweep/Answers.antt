use Rattle.std.proofs.Common.{map, ap, sym, subst, length, arith}
use Rattle.std.specs.Prelude.{vec_capacity}
use Rattle.realm.specs.Sessions.{live}
use Rattle.ghost_state.specs.GhostList.{items_of}
use Rattle.realm_inbox.specs.Seats.{said}
use Rattle.ghost_state.specs.declared.ghost_list.GhostList.{GhostList}
use Rattle.realm_actor.specs.ActorView.{Acting}
use Rattle.realm_actor.specs.Settle.{Sweeps}
use Rattle.realm_actor.specs.Invariant.{Stands}
use Rattle.realm_actor.proofs.RowRemoval.{stands_swept, sweeps, fewer}
use Rattle.realm_actor.proofs.MadeHistory.{made_kept}
use Rattle.realm_actor.proofs.actor.Actor.sweep.Goals as goal

pub invariant_of-self : goal.invariant_of-self
invariant_of-self g c =
    let a = c.self.inside.state in
    let b = c.sweep.new.self in
    let n = c.sweep.ensures in
    let stands = stands_swept a.table.realm a.table.rows.items c.self.invariant.0 in
    let room = c.self.invariant.1 in
    let less = fewer (λ r. live a.table.realm r.conn) a.table.rows.items in
    let l = ap length n.rows in
    let same = ap vec_capacity n.last_cut in
    (subst (λ h. Stands h b.table.rows.items) (sym n.realm) (subst (λ x. Stands a.table.realm x) (sym n.rows) stands), omega (arith, room, less, l, same), n.keeps.table.knows c.self.invariant.2, made_kept a.table.realm b.table.realm _ _ n.realm (ap (λ (p : GhostList _). map said (items_of p)) n.keeps.handled) c.self.invariant.3)

pub returns-clause-sweeps : goal.returns-clause-sweeps
returns-clause-sweeps g c =
    let a = c.self.inside.state in
    let b = c.sweep.new.self in
    let n = c.sweep.ensures in
    let old : Acting g.row.S.Denot = record { chronicle = a.table.chronicle.chronicle; history = a.table.realm; rows = a.table.rows.items; words = g.W.IdSource.given a.words; last_cut = a.last_cut.items; handled = map said (items_of a.handled) } in
    let new : Acting g.row.S.Denot = record { chronicle = b.table.chronicle.chronicle; history = b.table.realm; rows = b.table.rows.items; words = g.W.IdSource.given b.words; last_cut = b.last_cut.items; handled = map said (items_of b.handled) } in
    subst (λ (o : Acting g.row.S.Denot). Sweeps o new) c.self.view_is
    (sweeps old new c.self.invariant.0 n.rows n.realm (ap (g.W.IdSource.given) n.words) (ap (λ v. v.items) n.last_cut) (ap (λ (p : GhostList _). map said (items_of p)) n.keeps.handled))
