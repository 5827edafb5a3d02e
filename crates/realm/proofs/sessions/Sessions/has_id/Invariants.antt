use Rattle.std.proofs.Common.{◌≡◌, eqb, drop}
use Rattle.std.specs.List.{list_any}
use Rattle.realm.proofs.sessions.Sessions.has_id.Given as goal

abbrev pub invariant-loop-who : goal.invariant-loop-who
invariant-loop-who l = list_any (λ w. eqb w.id l.id) (drop l.who-index l.who-items) ≡ list_any (λ w. eqb w.id l.id) l.who-items
