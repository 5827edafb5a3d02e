use Rattle.realm_inbox.proofs.StepEffects.{cuts_door_by}
use Rattle.realm_inbox.proofs.opening.cut_door.Goals as goal

pub another-requires-clause-rule : goal.another-requires-clause-rule
another-requires-clause-rule g c = cuts_door_by g.J.InboxNaming.home _ _ c.requires.pass.1
