use Rattle.threaded_server.proofs.OwnStreams.{names_are_own}
use Rattle.threaded_server.proofs.laws.names_are_own.Goals as goal

pub returns : goal.returns
returns g c = names_are_own
