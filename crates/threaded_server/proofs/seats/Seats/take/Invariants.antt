use Rattle.std.proofs.Common.{◌≡◌, ◌<◌, ℕ, None}
use Rattle.threaded_server.specs.Seats.{free_at}
use Rattle.threaded_server.proofs.seats.Seats.take.Given as goal

abbrev pub invariant-loop-place : goal.invariant-loop-place
invariant-loop-place l = record {
  none : (k : ℕ) → k < l.place → free_at l.self k ≡ None;
  same : l.self ≡ l.fn.self;
}
