use Rattle.std.proofs.Common.{arith}
use Rattle.realm.proofs.EmptyHistory.{agrees-begun}
use Rattle.realm.proofs.realm.Realm.new.Goals as goal

pub invariant_of-result : goal.invariant_of-result
invariant_of-result c = rw c.new-6.ensures.items (agrees-begun _ c.new.ensures c.in_ok-new.ensures c.new-3.ensures c.new-4.ensures, rw c.new.ensures (omega arith))
