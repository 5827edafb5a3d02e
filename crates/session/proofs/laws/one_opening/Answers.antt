use Rattle.session.proofs.OneVerdict.{one-opening as law}
use Rattle.session.proofs.laws.one_opening.Goals as goal

pub returns : goal.returns
returns c = law
