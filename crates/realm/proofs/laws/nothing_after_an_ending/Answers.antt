use Rattle.realm.proofs.NothingAfterAnEnding.{nothing-given}
use Rattle.realm.proofs.laws.nothing_after_an_ending.Goals as goal

pub returns : goal.returns
returns c = nothing-given
