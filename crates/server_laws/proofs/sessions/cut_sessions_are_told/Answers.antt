use Rattle.server_laws.proofs.Whole.{cut_sessions_are_told}
use Rattle.server_laws.proofs.sessions.cut_sessions_are_told.Goals as goal

pub returns : goal.returns
returns g c = cut_sessions_are_told
