-- A drain of histories that a chronicle recorded, and that chronicle's own history.
use Rattle.std.specs.Prelude.{ℕ, Option, Some, None, List}
use Rattle.atomic_table.specs.Seated.{TableId}
use Rattle.chronicle.specs.Recorded.{Reaches}
use Rattle.outbox_queue.specs.Ends.{Taking, Owes}

-- a history as a chronicle recorded it: which chronicle, and the history
pub record Kept (H : Type 0) : Type 0 where
  pub chronicle : TableId
  pub history : H

abbrev pub history_of : {H : Type 0} → Option (Kept H) → Option H
history_of None = None
history_of (Some kept) = Some kept.history

module _ {T H : Type 0} (begins : H → H → Type 0) (owed : H → ℕ → List T) where
  -- what the drain saw last, if anything, begins the history, and what was taken begins what the history owes the drain's connection
  pub record IsTied (own : Option H) (drain : Taking T (Kept H)) : Type 0 where
    pub seen : Reaches begins (history_of drain.seen) own
    pub taken : Owes owed own drain.conn drain.taken
