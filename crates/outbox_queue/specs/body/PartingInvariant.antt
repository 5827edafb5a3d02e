-- What always holds of the end that adds while it is on its way.
use Rattle.std.specs.Prelude.{ℕ, Bool, List}
use Rattle.atomic_table.specs.Seated.{TableId}
use Rattle.outbox_queue.specs.body.Vouching.{VouchesFor}
use Rattle.outbox_queue.specs.declared.parting.Farewell.TheInside.{Inside as Farewell}

module _ {T H : Type 0} (owed : H → ℕ → List T) (is_over : H → ℕ → Type 0) (was_cut : H → ℕ → Bool) (belongs : H → TableId → Type 0) where
  -- the history that the end brings vouches for what was added
  abbrev pub IsParting : Farewell T H → Type 0
  IsParting f = VouchesFor owed is_over was_cut belongs f.history f.end.conn f.end.chronicle f.end.added f.end.full_finds f.is_lost
