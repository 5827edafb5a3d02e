use Rattle.session.proofs.OneVerdict.{one-verdict as law}
use Rattle.session.proofs.laws.one_verdict.Goals as goal

pub returns : goal.returns
returns c = law
