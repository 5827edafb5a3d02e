-- Connections, ascending.
use Rattle.std.specs.Prelude.{ℕ, ◌<◌, ◌≤◌, List, [], ◌∷◌, ⊤, length, slice_index_or}

-- c is less than each of them
abbrev pub IsBelowAll : ℕ → List ℕ → Type 0
IsBelowAll c [] = ⊤
IsBelowAll c (x ∷ xs) = (c < x) × IsBelowAll c xs

-- ascending, each once
abbrev pub AreAscending : List ℕ → Type 0
AreAscending [] = ⊤
AreAscending (x ∷ xs) = IsBelowAll x xs × AreAscending xs

-- c is none of them; its place would be i
pub record BelongsAt (xs : List ℕ) (i c : ℕ) : Type 0 where
  pub within : i ≤ length xs
  pub before : (k : ℕ) → k < i → slice_index_or xs k 0 < c
  pub after : (k : ℕ) → i ≤ k → k < length xs → c < slice_index_or xs k 0
