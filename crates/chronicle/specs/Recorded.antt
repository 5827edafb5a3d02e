-- What contracts see of a chronicle and of its tokens.
use Rattle.std.specs.Prelude.{Option, Some, None}
use Rattle.atomic_table.specs.Seated.{TableId}

-- which chronicle it is, and the history that it has, or that it had when a token was cut; none, if nothing was recorded
pub record Recorded (H : Type 0) : Type 0 where
  pub chronicle : TableId
  pub history : Option H

-- what was recorded before, if anything was, begins what is recorded now
abbrev pub Reaches : {H : Type 0} → (H → H → Type 0) → Option H → Option H → Type 0
Reaches begins None now = Unit {0}
Reaches begins (Some h) None = ⊥
Reaches begins (Some h) (Some k) = begins h k
