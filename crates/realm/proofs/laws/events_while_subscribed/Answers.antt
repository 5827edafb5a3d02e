use Rattle.realm.proofs.EventsFollowSubscribed.{events-while}
use Rattle.realm.proofs.laws.events_while_subscribed.Goals as goal

pub returns : goal.returns
returns c = events-while
