-- The first of a list, and the least of some.
use Rattle.std.specs.Prelude.{ℕ, cond, nat_le, ◌≡◌, List, [], ◌∷◌, None, Some}
use Rattle.std.specs.declared.option.Option.{Option}
use Rattle.realm.specs.declared.entry.Entry.{Entry}

-- e is the first of these, where there is one, and what is behind it
abbrev pub FrontIs : Option Entry → List Entry → List Entry → Type 0
FrontIs None es rest = es ≡ []
FrontIs (Some e) es rest = es ≡ e ∷ rest

abbrev pub lesser : Option ℕ → ℕ → Option ℕ
lesser None c = Some c
lesser (Some b) c = cond (nat_le b c) (Some b) (Some c)

-- the least of these, and of the one before, if there is one
abbrev pub least_of : Option ℕ → List ℕ → Option ℕ
least_of best [] = best
least_of best (c ∷ cs) = least_of (lesser best c) cs
