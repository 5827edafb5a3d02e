use Rattle.threaded_server.proofs.OwnStreams.{streams_are_own}
use Rattle.threaded_server.proofs.laws.streams_are_own.Goals as goal

pub returns : goal.returns
returns g c = streams_are_own
