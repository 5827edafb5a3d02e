-- A world at rest, and one entry after another.
use Rattle.std.specs.Prelude.{ℕ, ◌≡◌, ◌≤◌, List, [], ◌∷◌, ◌++◌}
use Rattle.wamp_messages.specs.declared.item.Item.{Item}
use Rattle.realm.specs.declared.entry.Entry.{Entry}
use Rattle.realm.specs.History.{History, begun, ◌▷◌}
use Rattle.realm.specs.Given.{items_for, GivesExactly}
use Rattle.realm_core.specs.Worlds.{Course}

-- nothing waits, nobody was found full, and there is room
pub record IsAtRest (w : Course) : Type 0 where
  pub inbox_room : 1 ≤ w.inbox_cap
  pub outbox_room : 1 ≤ w.outbox_cap
  pub inbox : w.inbox ≡ []
  pub pushing : w.pushing ≡ []
  pub full : w.full ≡ []
  pub all_taken : (c : ℕ) → items_for c w.added ≡ items_for c w.taken

-- e entered after h; these items of it were taken, and the others wait to be pushed
pub record IsGiving (h : History) (e : Entry) (w : Course) (given : List (ℕ × Item)) : Type 0 where
  pub inbox_room : 1 ≤ w.inbox_cap
  pub outbox_room : 1 ≤ w.outbox_cap
  pub inbox : w.inbox ≡ []
  pub full : w.full ≡ []
  pub all_taken : (c : ℕ) → items_for c w.added ≡ items_for c w.taken
  pub history : w.history ≡ h ▷ e
  pub gives : GivesExactly h e (given ++ w.pushing)

-- an entry entered, and none of its items was taken
pub record HasEntered (w : Course) : Type 0 where
  pub before : History
  pub entry : Entry
  pub giving : IsGiving before entry w []

-- exactly what the last entry gives
abbrev pub GivesLast : History → List (ℕ × Item) → Type 0
GivesLast (begun grants) given = ⊥
GivesLast (h ▷ e) given = GivesExactly h e given

-- the first item is for c
pub record IsFirstOf (c : ℕ) (xs : List (ℕ × Item)) : Type 0 where
  pub item : Item
  pub rest : List (ℕ × Item)
  pub is : xs ≡ (c, item) ∷ rest
