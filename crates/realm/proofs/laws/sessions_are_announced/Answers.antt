use Rattle.realm.proofs.SessionsAreAnnounced.{arrivals, departures}
use Rattle.realm.proofs.laws.sessions_are_announced.Goals as goal

pub returns : goal.returns
returns c = record { come = arrivals; gone = departures }
