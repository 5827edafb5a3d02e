use Rattle.realm.proofs.OwedOnlyGrows.{owed-Begins}
use Rattle.realm.proofs.laws.owed_only_grows.Goals as goal

pub returns : goal.returns
returns c = owed-Begins
