use Rattle.outbox_queue.proofs.SlotSteps.{pops}
use Rattle.outbox_queue.proofs.link.EndsLink.take.Goals as goal

pub pop_as-requires-clause-rule : goal.pop_as-requires-clause-rule
pop_as-requires-clause-rule g c = (pops _ _ c.requires.known.0 c.requires.known.1, λ _ _ _ _. tt)
