use Rattle.realm_inbox.proofs.StepEffects.{posts_in_order}
use Rattle.realm_inbox.proofs.laws.waiting_posts_are_in_order.Goals as goal

pub returns : goal.returns
returns g c = posts_in_order _
