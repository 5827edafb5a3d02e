use Rattle.realm.proofs.DueEvents.{given}
use Rattle.realm.proofs.laws.due_events_are_given.Goals as goal

pub returns : goal.returns
returns c = given
