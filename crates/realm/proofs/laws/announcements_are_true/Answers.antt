use Rattle.realm.proofs.AnnouncementsAreTrue.{truthful}
use Rattle.realm.proofs.laws.announcements_are_true.Goals as goal

pub returns : goal.returns
returns c = truthful
