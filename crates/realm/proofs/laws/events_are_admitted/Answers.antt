use Rattle.realm.proofs.EventsAreAdmitted.{admitted, excluded, empty}
use Rattle.realm.proofs.laws.events_are_admitted.Goals as goal

pub returns : goal.returns
returns c = record { admitted = admitted; excluded = excluded; empty = empty }
