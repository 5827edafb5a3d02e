-- Elements put in their order one by one, where the first of those that tie stands.
use Rattle.std.specs.Prelude.{List, [], ◌∷◌}
use Rattle.std.specs.Ordering.{match_ordering}
use Rattle.std.specs.declared.cmp.Ordering.{Ordering}

-- x in its place, instead of one that it ties with
abbrev pub placed : {X : Type 0} → (X → X → Ordering) → X → List X → List X
placed c x [] = x ∷ []
placed c x (y ∷ ys) = match_ordering (c x y) (x ∷ y ∷ ys) (x ∷ ys) (y ∷ placed c x ys)

-- all of them, the last one first
abbrev pub in_order : {X : Type 0} → (X → X → Ordering) → List X → List X
in_order c [] = []
in_order c (x ∷ xs) = placed c x (in_order c xs)
