-- What the slot holds in which the end that adds comes over to the end that takes.
use Rattle.std.specs.Prelude.{◌≡◌, ◌⊎◌, ℕ, Option, Some, None, List, [], ◌∷◌}
use mathlib.Core.Option.{some}
use lib.ListN.{get_elem?}
use Rattle.outbox_queue.specs.Ends.{Adding, Parting, Taking}
use Rattle.outbox_queue.specs.declared.link.Whose.{Whose}

-- whose end it is
abbrev pub whose_of : {T H : Type 0} → Adding T H → Whose
whose_of end = record { queue = end.queue; capacity = end.capacity; conn = end.conn; chronicle = end.chronicle }

abbrev pub whose_drain : {T H : Type 0} → Taking T H → Whose
whose_drain drain = record { queue = drain.queue; capacity = drain.capacity; conn = drain.conn; chronicle = drain.chronicle }

module _ {T H : Type 0} where
  -- each end that is on its way is of the same
  abbrev pub AreOf : Whose → List (Parting T H) → Type 0
  AreOf whose [] = Unit {0}
  AreOf whose (x ∷ items) = (whose_of x.end ≡ whose) × AreOf whose items

  -- of the same queue, capacity, connection and chronicle, which each pass knows
  pub record OfOne (whose : Whose) (items : List (Parting T H)) (views : List (Option Whose)) : Type 0 where
    pub items_are : AreOf whose items
    pub known : (port : ℕ) (v : Option Whose) → get_elem? views port ≡ some v → v ≡ Some whose

  -- which they are isn't picked yet, and nothing is on its way; or all is of the same
  abbrev pub Keeps : List (Parting T H) → List (Option Whose) → Type 0
  Keeps items views = ((items ≡ []) × (views ≡ None ∷ [])) ⊎ ((whose : Whose) × OfOne whose items views)
