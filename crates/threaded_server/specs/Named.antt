-- Streams that are lent under names of their own.
use Rattle.std.specs.Prelude.{◌≡◌, ◌<◌, ℕ, List, Some, slice_get}

-- each has one name by both of its halves, lower than the next one's, and no two have the same
pub record AreNamed {A : Type 0} (lent : List A) (next : ℕ) (read written : A → ℕ) : Type 0 where
  pub below : (i : ℕ) (a : A) → slice_get lent i ≡ Some a → read a < next
  pub one : (i : ℕ) (a : A) → slice_get lent i ≡ Some a → written a ≡ read a
  pub apart : (i j : ℕ) (a b : A) → slice_get lent i ≡ Some a → slice_get lent j ≡ Some b → read a ≡ read b → i ≡ j
