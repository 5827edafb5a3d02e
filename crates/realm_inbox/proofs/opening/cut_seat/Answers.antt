use Rattle.realm_inbox.proofs.StepEffects.{cuts_by}
use Rattle.realm_inbox.proofs.opening.cut_seat.Goals as goal

pub another-cut-requires-clause-rule : goal.another-cut-requires-clause-rule
another-cut-requires-clause-rule g c = cuts_by _ _ _ c.requires.pass.1
