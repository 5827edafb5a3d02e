use Rattle.std.proofs.Common.{◌≡◌}
use Rattle.threaded_server.proofs.realm_handle.push_seen.Given as goal

abbrev pub invariant-loop : goal.invariant-loop
invariant-loop g l = (l.all.items ≡ l.initial.all.items) × (l.seen ≡ l.fn.seen)
