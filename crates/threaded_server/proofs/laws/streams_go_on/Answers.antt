use Rattle.threaded_server.proofs.ServeSteps.{nothing_served}
use Rattle.threaded_server.proofs.OwnStreams.{streams_go_on}
use Rattle.threaded_server.proofs.laws.streams_go_on.Goals as goal

pub returns : goal.returns
returns g c = streams_go_on
