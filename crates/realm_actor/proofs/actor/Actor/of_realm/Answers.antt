use Rattle.std.proofs.Common.{ap, map, length, arith, ◌∙◌}
use Rattle.realm_inbox.specs.Seats.{said}
use Rattle.realm_actor.proofs.RowRemoval.{stands_new}
use Rattle.realm_actor.proofs.MadeHistory.{made_new}
use Rattle.realm_actor.proofs.actor.Actor.of_realm.Goals as goal

pub invariant_of-result : goal.invariant_of-result
invariant_of-result g c =
    let s = c.of_realm.ensures in
    let state = c.of_realm.result in
    let begins = s.history ∙ c.requires.empty.1 in
    let none = ap length s.rows in
    (stands_new state.table.realm c.requires.empty.0 state.table.rows.items begins s.rows, omega (arith, none), s.knows, made_new state.table.realm c.requires.empty.0 _ begins (ap (λ l. map said l) s.handled))
