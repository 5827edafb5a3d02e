use Rattle.std.proofs.Common.{[], ◌∷◌, refl, ◌∙◌, append-nil}
use Rattle.realm_inbox.specs.EndViews.{received}
use Rattle.broker_threads.proofs.Slots.{prefix_on}
use Rattle.broker_threads.proofs.actor_thread.turn_away_rest.Goals as goal

pub loop-init : goal.loop-init
loop-init g c = (([], append-nil (received c.args.inbox.now)), refl)

pub loop-preserved : goal.loop-preserved
loop-preserved g c = (
  prefix_on (received c.args.inbox.now) (received c.loop.inbox) (received c.receive.new.self) (c.in-Some-Act.field-0 ∷ []) c.loop.invariant.0 c.in-Some-Act.ensures.given,
  c.in-Some-Act.ensures.same.0 ∙ c.loop.invariant.1,
)
