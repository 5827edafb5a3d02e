-- What an entry gave, connection by connection.
use Rattle.std.specs.Prelude.{ℕ, cond, ◌==◌, ◌≡◌, ◌≤◌, ⊤, List, [], ◌∷◌}
use Rattle.realm.specs.declared.entry.Entry.{Entry}
use Rattle.wamp_messages.specs.declared.item.Item.{Item}
use Rattle.realm.specs.History.{History}
use Rattle.realm.specs.Yield.{yield}

-- the items for c, in their order
abbrev pub items_for : ℕ → List (ℕ × Item) → List Item
items_for c [] = []
items_for c (x ∷ xs) = cond (x.0 == c) (x.1 ∷ items_for c xs) (items_for c xs)

abbrev pub StartsAbove : ℕ → List (ℕ × Item) → Type 0
StartsAbove c [] = ⊤
StartsAbove c (x ∷ xs) = c ≤ x.0

-- ascending by connection
abbrev pub IsAscending : List (ℕ × Item) → Type 0
IsAscending [] = ⊤
IsAscending (x ∷ xs) = StartsAbove x.0 xs × IsAscending xs

-- each connection c gets exactly `gift c`
pub record GivesEach (gift : ℕ → List Item) (given : List (ℕ × Item)) : Type 0 where
  pub each : (c : ℕ) → items_for c given ≡ gift c
  pub ascending : IsAscending given

-- each connection gets exactly what the entry e, coming after h, gives it
abbrev pub GivesExactly : History → Entry → List (ℕ × Item) → Type 0
GivesExactly h e given = GivesEach (yield h e) given
