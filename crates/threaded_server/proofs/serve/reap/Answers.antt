use Rattle.std.proofs.Common.{◌∙◌, refl}
use Rattle.threaded_server.proofs.Moving.{moves_none, moves_on, taken_back}
use Rattle.threaded_server.proofs.serve.reap.Goals as goal

pub loop-place-init : goal.loop-place-init
loop-place-init g c = (refl, moves_none _ _, refl, refl, refl)

pub loop-place-preserved : goal.loop-place-preserved
loop-place-preserved g c = (
  c.take_back.ensures.answers ∙ c.loop-place.invariant.0,
  moves_on 0 0 _ _ _ _ _ _ c.loop-place.invariant.1 (taken_back _ _ _ _ _ c.reap-gone.ensures.lent c.reap-gone.ensures.over c.take_back.ensures.lending),
  c.reap-gone.ensures.plan ∙ c.loop-place.invariant.2,
  c.reap-gone.ensures.realms ∙ c.loop-place.invariant.3,
  c.reap-gone.ensures.stops ∙ c.loop-place.invariant.4,
)
