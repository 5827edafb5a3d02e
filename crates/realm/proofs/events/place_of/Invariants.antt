use Rattle.realm.proofs.Places.{PassedOver}
use Rattle.realm.proofs.events.place_of.Given as goal

abbrev pub invariant-loop-i : goal.invariant-loop-i
invariant-loop-i l = PassedOver l.given l.i l.conn
