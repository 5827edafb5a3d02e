use Rattle.std.proofs.Common.{◌≡◌, ◌≢◌, ◌≤◌, ◌<◌, ◌+◌, ℕ, Some}
use mathlib.Core.List.{IsPrefix}
use Rattle.realm_inbox.specs.EndViews.{inbox_of, posted, received}
use Rattle.realm_inbox.specs.Seats.{at_seat}
use Rattle.realm_inbox.specs.declared.ends.Poster.{Poster}
use Rattle.threaded_server.specs.Posters.{lists_of, poster_at}
use Rattle.threaded_server.proofs.poster_table.PosterTable.compare.Given as goal

abbrev pub invariant-loop-place : goal.invariant-loop-place
invariant-loop-place g l =
    let were = lists_of l.initial.self in
    let now = lists_of l.self in
    ((received l.inbox ≡ received l.initial.inbox) × (inbox_of l.inbox ≡ inbox_of l.initial.inbox))
    × ((k i : ℕ) → i ≢ l.realm → poster_at now k i ≡ poster_at were k i)
    × ((k : ℕ) → l.place ≤ k → poster_at now k l.realm ≡ poster_at were k l.realm)
    × ((k : ℕ) (p : Poster g.row.S.Denot) → k < l.place → poster_at were k l.realm ≡ Some p → IsPrefix (at_seat (k + 1) (received l.initial.inbox)) (posted p))
