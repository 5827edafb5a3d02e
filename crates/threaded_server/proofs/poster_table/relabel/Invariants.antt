use Rattle.threaded_server.proofs.PosterSteps.{Relabelling}
use Rattle.threaded_server.proofs.poster_table.relabel.Given as goal

abbrev pub invariant-loop-realm : goal.invariant-loop-realm
invariant-loop-realm g l = Relabelling l.conn l.realm l.initial.posters.items l.posters.items
