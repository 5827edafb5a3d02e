use Rattle.realm_inbox.proofs.StepEffects.{stops_posted}
use Rattle.realm_inbox.proofs.laws.stops_received_were_posted.Goals as goal

pub returns : goal.returns
returns g c = stops_posted _
