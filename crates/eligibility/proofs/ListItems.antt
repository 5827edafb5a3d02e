-- Reading a list item by item.
use Rattle.std.proofs.Common.{◌≡◌, List, [], ◌∷◌, ◌++◌, Option, None, Some, refl, ap, sym, append_assoc}
use Rattle.eligibility.specs.Options.{with_first}

module _ {X : Type 0} where
  -- what was read, and then what is read of the rest
  abbrev pub after : List X → Option (List X) → Option (List X)
  after done None = None
  after done (Some xs) = Some (done ++ xs)

  pub after-first : (done : List X) (x : X) (rest : Option (List X)) → after done (with_first (Some x) rest) ≡ after (done ++ x ∷ []) rest
  after-first done x None = refl
  after-first done x (Some xs) = ap Some (sym (append_assoc done (x ∷ []) xs))

  pub after-nothing : (o : Option (List X)) → o ≡ after [] o
  after-nothing None = refl
  after-nothing (Some xs) = refl
