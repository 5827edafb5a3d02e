use Rattle.realm_actor.proofs.MadeHistory.{made_on}
use Rattle.realm_actor.proofs.actor.Actor.take.Goals as goal

pub invariant_of-self : goal.invariant_of-self
invariant_of-self g c =
    let n = c.handle.ensures in
    (n.stands, n.room, n.keeps.knows c.self.invariant.2, made_on c.handle.result c.args.post _ _ c.self.invariant.3 n.handles)
