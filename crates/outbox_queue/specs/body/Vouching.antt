-- A history that vouches for what was added.
use Rattle.std.specs.Prelude.{ℕ, Bool, Option, List}
use Rattle.atomic_table.specs.Seated.{TableId}
use Rattle.outbox_queue.specs.Ends.{IsOf, IsVouched}

module _ {T H : Type 0} (owed : H → ℕ → List T) (is_over : H → ℕ → Type 0) (was_cut : H → ℕ → Bool) (belongs : H → TableId → Type 0) where
  -- the history, if it is there, is of the chronicle, and vouches for what was added
  pub record VouchesFor (history : Option H) (conn : ℕ) (chronicle : Option TableId) (added : List T) (full_finds : ℕ) (is_lost : Bool) : Type 0 where
    pub vouched : IsVouched owed is_over was_cut history conn added full_finds is_lost
    pub is_of : IsOf belongs history chronicle
