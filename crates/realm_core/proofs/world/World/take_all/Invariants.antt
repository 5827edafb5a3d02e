use Rattle.std.proofs.Common.{length, []}
use Rattle.realm.specs.declared.entry.Entry.{Entry}
use Rattle.realm.specs.History.{History}
use Rattle.realm_core.specs.body.Rest.{IsGiving}
use Rattle.realm_core.proofs.world.World.take_all.Given as goal

abbrev pub invariant-loop-conn : goal.invariant-loop-conn
invariant-loop-conn l = (h : History) (e : Entry) → IsGiving h e l.fn.self [] → IsGiving h e l.self l.given.items

abbrev pub decreases-loop-conn : goal.decreases-loop-conn
decreases-loop-conn l = length l.self.pushing
