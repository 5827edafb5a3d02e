use Rattle.std.proofs.Common.{◌≡◌}
use Rattle.threaded_server.proofs.RunSteps.{Checking}
use Rattle.threaded_server.proofs.realm_handle.check_all.Given as goal

abbrev pub invariant-loop : goal.invariant-loop
invariant-loop g l = (l.chronicle ≡ l.initial.chronicle) × Checking l.chronicle l.initial.seen.items l.seen.items
