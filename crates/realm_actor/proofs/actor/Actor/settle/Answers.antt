use Rattle.std.proofs.Common.{map, ap, sym, subst, arith}
use Rattle.std.proofs.lemmas.Result.{IfOk-weaker}
use Rattle.std.specs.Prelude.{IfOk, vec_capacity}
use Rattle.ghost_state.specs.GhostList.{items_of}
use Rattle.realm_inbox.specs.Seats.{said}
use Rattle.ghost_state.specs.declared.ghost_list.GhostList.{GhostList}
use Rattle.realm_actor.specs.ActorView.{Acting}
use Rattle.realm_actor.specs.Settle.{Settles}
use Rattle.realm_actor.specs.Invariant.{Stands}
use Rattle.realm_actor.proofs.RowRemoval.{stands_either, stands_one, length_one, settles}
use Rattle.realm_actor.proofs.MadeHistory.{made_kept}
use Rattle.realm_actor.proofs.actor.Actor.settle.Goals as goal

pub invariant_of-self : goal.invariant_of-self
invariant_of-self g c =
    let a = c.self.inside.state in
    let b = c.settle.new.self in
    let n = c.settle.ensures in
    let both = stands_either c.settle.result a.table.realm a.table.rows.items b.table.rows.items _ _
    (λ rest e. (
      stands_one a.table.realm c.args.drain.conn c.args.drain rest.items.items a.table.rows.items b.table.rows.items c.self.invariant.0 e,
      length_one c.args.drain.conn c.args.drain rest.items.items a.table.rows.items b.table.rows.items e,
    ))
    c.self.invariant.0 n.rows n.err in
    let room = c.self.invariant.1 in
    let l = both.1 in
    let same = ap vec_capacity n.last_cut in
    (subst (λ h. Stands h b.table.rows.items) (sym n.realm) both.0, omega (arith, room, l, same), n.keeps.table.knows c.self.invariant.2, made_kept a.table.realm b.table.realm _ _ n.realm (ap (λ (p : GhostList _). map said (items_of p)) n.keeps.handled) c.self.invariant.3)

pub returns-clause-ok : goal.returns-clause-ok
returns-clause-ok g c =
    let a = c.self.inside.state in
    let b = c.settle.new.self in
    let n = c.settle.ensures in
    let old : Acting g.row.S.Denot = record { chronicle = a.table.chronicle.chronicle; history = a.table.realm; rows = a.table.rows.items; words = g.W.IdSource.given a.words; last_cut = a.last_cut.items; handled = map said (items_of a.handled) } in
    let new : Acting g.row.S.Denot = record { chronicle = b.table.chronicle.chronicle; history = b.table.realm; rows = b.table.rows.items; words = g.W.IdSource.given b.words; last_cut = b.last_cut.items; handled = map said (items_of b.handled) } in
    subst (λ (o : Acting g.row.S.Denot). IfOk c.settle.result (λ rest. Settles c.args.drain.conn c.args.drain rest.items.items o new)) c.self.view_is
    (IfOk-weaker c.settle.result _ _
    (λ rest e. settles c.args.drain.conn c.args.drain rest.items.items old new c.self.invariant.0 e n.realm (ap (g.W.IdSource.given) n.words) (ap (λ v. v.items) n.last_cut) (ap (λ (p : GhostList _). map said (items_of p)) n.keeps.handled))
    n.rows)
