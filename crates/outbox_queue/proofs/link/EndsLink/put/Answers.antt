use Rattle.outbox_queue.proofs.SlotSteps.{pushes}
use Rattle.outbox_queue.proofs.link.EndsLink.put.Goals as goal

pub try_push_as-requires-clause-rule : goal.try_push_as-requires-clause-rule
try_push_as-requires-clause-rule g c = pushes _ _ _ c.args.farewell c.requires.whose
