use Rattle.client_session.proofs.OneAfterAnother.{hearings_begin}
use Rattle.client_session.proofs.laws.hearings_begin.Goals as goal

pub returns : goal.returns
returns c = hearings_begin
