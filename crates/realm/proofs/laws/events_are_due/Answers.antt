use Rattle.realm.proofs.DueEvents.{due}
use Rattle.realm.proofs.laws.events_are_due.Goals as goal

pub returns : goal.returns
returns c = due
