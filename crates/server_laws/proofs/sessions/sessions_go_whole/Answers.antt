use Rattle.server_laws.proofs.Whole.{sessions_go_whole}
use Rattle.server_laws.proofs.sessions.sessions_go_whole.Goals as goal

pub returns : goal.returns
returns g c = sessions_go_whole
