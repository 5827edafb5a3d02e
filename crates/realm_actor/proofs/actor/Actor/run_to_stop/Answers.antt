use Rattle.std.proofs.Common.{refl}
use Rattle.realm_actor.proofs.actor.Actor.run_to_stop.Goals as goal

pub returns-clause-ended : goal.returns-clause-ended
returns-clause-ended g c = c.run_on.ensures.ended refl
