use Rattle.std.proofs.Common.{◌≡◌, ◌≢◌, ℕ, ◌<◌, []}
use Rattle.realm_inbox.specs.SeatLines.{line_at}
use Rattle.realm_inbox.proofs.seat_lines.first_line.Given as goal

abbrev pub invariant-loop-place : goal.invariant-loop-place
invariant-loop-place g l = (k : ℕ) → k ≢ 0 → k < l.place → line_at l.lines.items k ≡ []
