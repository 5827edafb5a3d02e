use Rattle.realm_inbox.proofs.StepEffects.{begins_posted}
use Rattle.realm_inbox.proofs.laws.received_begins_posted.Goals as goal

pub returns : goal.returns
returns g c = begins_posted _
