use Rattle.realm_inbox.proofs.StepEffects.{given_by}
use Rattle.realm_inbox.proofs.ends.Inbox.try_receive.Goals as goal

pub returns-clause-given : goal.returns-clause-given
returns-clause-given g c = given_by _ _ _ _ c.look.ensures.given c.ok.ensures.value
