use Rattle.std.proofs.Common.{◌≡◌, ℕ, []}
use Rattle.realm_inbox.specs.SeatLines.{line_at}
use Rattle.realm_inbox.proofs.seat_lines.empty_lines.Given as goal

abbrev pub invariant-loop-place : goal.invariant-loop-place
invariant-loop-place g l = (k : ℕ) → line_at l.lines.items k ≡ []
