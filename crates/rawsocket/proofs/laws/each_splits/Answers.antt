use Rattle.rawsocket.proofs.SomeSplit.{each_splits as law}
use Rattle.rawsocket.proofs.laws.each_splits.Goals as goal

pub returns : goal.returns
returns c = law
