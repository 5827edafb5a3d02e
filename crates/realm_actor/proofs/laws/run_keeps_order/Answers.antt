use Rattle.realm_actor.proofs.RunKeepsOrder.{run_keeps}
use Rattle.realm_actor.proofs.laws.run_keeps_order.Goals as goal

pub returns : goal.returns
returns g c = run_keeps _
