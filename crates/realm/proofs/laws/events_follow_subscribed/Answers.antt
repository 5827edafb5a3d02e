use Rattle.realm.proofs.EventsFollowSubscribed.{events-follow}
use Rattle.realm.proofs.laws.events_follow_subscribed.Goals as goal

pub returns : goal.returns
returns c = events-follow
