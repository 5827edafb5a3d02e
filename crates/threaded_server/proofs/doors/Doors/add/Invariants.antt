use Rattle.std.proofs.Common.{◌≡◌}
use Rattle.threaded_server.proofs.doors.Doors.add.Given as goal

abbrev pub invariant-loop : goal.invariant-loop
invariant-loop g l = (l.self.doors.items ≡ l.initial.self.doors.items) × (l.door ≡ l.fn.door)
