use Rattle.client_session.proofs.OneAfterAnother.{hearings_join}
use Rattle.client_session.proofs.laws.hearings_join.Goals as goal

pub returns : goal.returns
returns c = hearings_join
