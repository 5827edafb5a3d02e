use Rattle.std.proofs.Common.{◌≡◌, None, replicate}
use Rattle.threaded_server.proofs.poster_table.no_posters.Given as goal

abbrev pub invariant-loop-realm : goal.invariant-loop-realm
invariant-loop-realm g l = l.posters.items ≡ replicate l._realm None
