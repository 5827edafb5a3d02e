-- Whom a post found full, or cut.
use Rattle.std.specs.Prelude.{◌≡◌, ◌⊎◌, ℕ, Bool, true, false, cond, ◌==◌, ◌||◌, ◌<◌, List, [], ◌∷◌, Option, Some, None, ⊤}
use Rattle.std.specs.List.{list_any}
use Rattle.realm_actor.specs.declared.row.Row.{Row}
use Rattle.realm_actor.specs.OutboxHistory.{Box}
use Rattle.realm_actor.specs.Rows.{box_in, Each}

-- how often a step found the outbox full; 0 where it isn't held
abbrev pub finds_in : Option Box → ℕ
finds_in None = 0
finds_in (Some o) = o.full_finds

module _ {S : Type 0} where
  -- what contracts see of the outbox of c, where it is held
  abbrev pub outbox_of : List (Row S) → ℕ → Option Box
  outbox_of [] c = None
  outbox_of (r ∷ rows) c = cond (r.conn == c) (box_in r) (outbox_of rows c)

  abbrev pub finds_of : List (Row S) → ℕ → ℕ
  finds_of rows c = finds_in (outbox_of rows c)

  -- the row is to be named: it is marked as cut, or as lost
  abbrev pub is_named : Row S → Bool
  is_named r = r.is_cut || r.is_lost

  -- the connections of the rows that are to be named
  abbrev pub named_conns : List (Row S) → List ℕ
  named_conns [] = []
  named_conns (r ∷ rows) = cond (is_named r) (r.conn ∷ named_conns rows) (named_conns rows)

  -- no row is marked
  abbrev pub NoMarks : List (Row S) → Type 0
  NoMarks rows = Each (λ r. (r.is_cut ≡ false) × (r.is_lost ≡ false)) rows

abbrev pub is_in : ℕ → List ℕ → Bool
is_in c cs = list_any (λ d. d == c) cs

-- ascending, so that each stands once
abbrev pub Ascends : List ℕ → Type 0
Ascends [] = ⊤
Ascends (c ∷ cs) = ((d : ℕ) → is_in d cs ≡ true → c < d) × Ascends cs

module _ {S : Type 0} where
  -- these are named: exactly those whose outbox a step found full between the two, and those that were lost
  pub record Names (lost : ℕ → Type 0) (olds news : List (Row S)) (named : List ℕ) : Type 0 where
    pub rose : (c : ℕ) → finds_of olds c < finds_of news c → is_in c named ≡ true
    pub cut : (c : ℕ) → lost c → is_in c named ≡ true
    pub only : (c : ℕ) → is_in c named ≡ true → (finds_of olds c < finds_of news c) ⊎ lost c
    pub ascending : Ascends named
