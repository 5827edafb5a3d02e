use Rattle.realm.proofs.LeaverIsNotTold.{leaver}
use Rattle.realm.proofs.laws.leaver_is_not_told.Goals as goal

pub returns : goal.returns
returns c = leaver
