use Rattle.std.proofs.Common.{◌≡◌, length}
use Rattle.threaded_server.proofs.Accepting.{Accepting}
use Rattle.threaded_server.specs.Realms.{realms_of}
use Rattle.threaded_server.specs.Stopping.{stops_of}
use Rattle.threaded_server.specs.Table.{books}
use Rattle.threaded_server.proofs.serve.accept_all.Given as goal

abbrev pub invariant-accepting : goal.invariant-accepting
invariant-accepting g l =
    let was = l.initial.connection_table.roster in
    let now = l.connection_table.roster in
    Accepting (g.A.Acceptor.answers l.initial.acceptor) (g.A.Acceptor.answers l.acceptor) l.failures (g.A.Acceptor.lending l.initial.acceptor) (g.A.Acceptor.lending l.acceptor) (books was.lent was.over.streams) (books now.lent now.over.streams)
    × (now.over.plan ≡ was.over.plan)
    × (length (realms_of l.connection_table.realms) ≡ length (realms_of l.initial.connection_table.realms))
    × (stops_of l.connection_table.doors ≡ stops_of l.initial.connection_table.doors)
