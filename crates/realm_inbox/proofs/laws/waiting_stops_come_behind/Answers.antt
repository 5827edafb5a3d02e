use Rattle.realm_inbox.proofs.StepEffects.{stops_behind}
use Rattle.realm_inbox.proofs.laws.waiting_stops_come_behind.Goals as goal

pub returns : goal.returns
returns g c = stops_behind _
