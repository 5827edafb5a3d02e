use Rattle.realm.proofs.GivenOnce.{given-once}
use Rattle.realm.proofs.laws.given_once.Goals as goal

pub returns : goal.returns
returns c = given-once
