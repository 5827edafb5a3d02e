use Rattle.std.proofs.Common.{ℕ, ◌<◌, ◌≤◌, ◌-◌, ◌≡◌, length}
use Rattle.std.specs.Prelude.{slice_get, Some}
use Rattle.realm_actor.specs.declared.row.Row.{Row}
use Rattle.realm_actor.proofs.row_search.place_by.Given as goal

abbrev pub invariant-loop-from : goal.invariant-loop-from
invariant-loop-from g l =
    (l.from ≤ l.end)
    × (l.end ≤ length l.rows)
    × ((k : ℕ) (r : Row g.row.S.Denot) → k < l.from → slice_get l.rows k ≡ Some r → r.conn < l.number)
    × ((k : ℕ) (r : Row g.row.S.Denot) → l.end ≤ k → slice_get l.rows k ≡ Some r → l.number ≤ r.conn)

abbrev pub decreases-loop-from : goal.decreases-loop-from
decreases-loop-from g l = l.end - l.from
