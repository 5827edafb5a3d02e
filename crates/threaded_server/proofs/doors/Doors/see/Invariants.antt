use Rattle.std.proofs.Common.{◌≡◌, length}
use Rattle.threaded_server.proofs.DoorSteps.{SeenUpTo}
use Rattle.threaded_server.specs.Posters.{traces}
use Rattle.threaded_server.specs.Stopping.{doors_of}
use Rattle.threaded_server.proofs.doors.Doors.see.Given as goal

abbrev pub invariant-loop-realm : goal.invariant-loop-realm
invariant-loop-realm g l =
    (traces l.posters.items ≡ traces l.initial.posters.items)
    × SeenUpTo l.realm (traces l.initial.posters.items) (doors_of l.initial.self) (doors_of l.self)
    × (length l.self.doors.items ≡ l.realm-end)
