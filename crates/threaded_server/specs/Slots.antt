-- What stands in the places of a table, and how it balances with what came and what went.
use Rattle.std.specs.Prelude.{List, [], ◌∷◌, ◌++◌, Option, None, Some, IsPermutation}

-- what stands in the places, in their order
abbrev pub in_slots : {A : Type 0} → List (Option A) → List A
in_slots [] = []
in_slots (None ∷ slots) = in_slots slots
in_slots (Some a ∷ slots) = a ∷ in_slots slots

-- what came is what went and what is still there, in some order
abbrev pub Balances : {A : Type 0} → List A → List A → List A → Type 0
Balances came went there = IsPermutation came (went ++ there)
