use Rattle.std.proofs.Common.{ℕ, ◌<◌, ◌≡◌}
use Rattle.std.specs.Prelude.{slice_get, Some}
use Rattle.realm_actor.specs.declared.row.Row.{Row}
use Rattle.realm_actor.specs.Rows.{box_in}
use Rattle.realm_actor.specs.Cuts.{IsFull}
use Rattle.realm_actor.proofs.cuts.least_full.Given as goal

abbrev pub invariant-loop-row : goal.invariant-loop-row
invariant-loop-row g l = (k : ℕ) (r : Row g.row.S.Denot) → k < l.row-index → slice_get l.rows k ≡ Some r → IsFull (box_in r) → ⊥
