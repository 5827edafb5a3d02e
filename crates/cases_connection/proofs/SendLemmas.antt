-- What goes to the thread that posts PINGs.
use denote.Param.Send.{IsSend, sendable}
use Rattle.std.proofs.Crossing.{crosses}
use Rattle.realm_inbox.proofs.SendLemmas.{backlog_send, backlog_sync}
use Rattle.cases_connection.specs.contracts.pongs.Pinger as Pinger

pub pinger_send : IsSend Pinger.the_row
pinger_send = search (backlog_send, backlog_sync, crosses, sendable) depth 60
