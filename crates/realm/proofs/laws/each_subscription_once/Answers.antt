use Rattle.realm.proofs.EachSubscriptionOnce.{once}
use Rattle.realm.proofs.laws.each_subscription_once.Goals as goal

pub returns : goal.returns
returns c = once
