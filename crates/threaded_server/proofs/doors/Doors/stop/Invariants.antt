use Rattle.threaded_server.specs.Stopping.{AllMayStop, doors_of}
use Rattle.threaded_server.proofs.doors.Doors.stop.Given as goal

abbrev pub invariant-loop-realm : goal.invariant-loop-realm
invariant-loop-realm g l = AllMayStop (doors_of l.initial.self) (doors_of l.self)
