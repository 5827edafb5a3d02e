use Rattle.std.proofs.Common.{◌≡◌, ◌<◌, ◌+◌, ℕ, Some}
use mathlib.Core.List.{IsPrefix}
use Rattle.realm_inbox.specs.EndViews.{inbox_of, posted, received}
use Rattle.realm_inbox.specs.Seats.{at_seat}
use Rattle.realm_inbox.specs.declared.ends.Poster.{Poster}
use Rattle.threaded_server.specs.Posters.{lists_of, poster_at, traces_of}
use Rattle.threaded_server.proofs.poster_table.PosterTable.drain_seats.Given as goal

abbrev pub invariant-loop-place : goal.invariant-loop-place
invariant-loop-place g l =
    let were = lists_of l.initial.self in
    (traces_of (lists_of l.self) ≡ traces_of were)
    × (IsPrefix (received l.initial.inbox) (received l.inbox))
    × (inbox_of l.inbox ≡ inbox_of l.initial.inbox)
    × ((k : ℕ) (p : Poster g.row.S.Denot) → k < l.place → poster_at were k l.realm ≡ Some p → IsPrefix (posted p) (at_seat (k + 1) (received l.inbox)))
