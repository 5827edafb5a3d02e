use Rattle.std.proofs.Common.{◌≡◌, ◌+◌, length}
use Rattle.realm_inbox.specs.EndViews.{AreNewSeats}
use Rattle.realm_inbox.specs.Ends.{Place}
use Rattle.threaded_server.proofs.PosterSteps.{Gaining}
use Rattle.threaded_server.specs.Posters.{lists_of}
use Rattle.threaded_server.proofs.poster_table.PosterTable.add_realm.Given as goal

abbrev pub invariant-loop-done : goal.invariant-loop-done
invariant-loop-done g l =
    (length l.seats.items + l._done ≡ 256)
    × ((inbox : Place g.row.S.Denot) → AreNewSeats inbox l.initial.seats.items → Gaining inbox l.realm (lists_of l.initial.self) (lists_of l.self) l.seats.items)
