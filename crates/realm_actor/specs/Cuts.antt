-- Sessions that were found full are cut, one after another.
use Rattle.std.specs.Prelude.{◌≡◌, ◌⊎◌, ℕ, false, ◌<◌, List, [], ◌∷◌, ◌++◌, Option, Some, None, slice_get}
use Rattle.realm.specs.declared.entry.Entry.{Entry}
use Rattle.realm.specs.declared.entry.Entry.TheVariants.{Cut}
use Rattle.realm.specs.History.{◌▷◌}
use Rattle.realm_actor.specs.declared.row.Row.{Row}
use Rattle.realm_actor.specs.OutboxHistory.{Box}
use Rattle.realm_actor.specs.Rows.{box_in, Each}
use Rattle.realm_actor.specs.Tables.{EachWent, Sound, Standing}

-- a Cut of c by this word: with it, or silent where memory was refused
abbrev pub IsCutOf : ℕ → ℕ → Entry → Type 0
IsCutOf c word e = (e ≡ Cut c (Some word)) ⊎ (e ≡ Cut c None)

-- a step found the outbox full, and it is open
abbrev pub IsFull : Option Box → Type 0
IsFull None = ⊥
IsFull (Some o) = (0 < o.full_finds) × (o.is_closed ≡ false)

module _ {S : Type 0} where
  -- no session that was found full is live
  abbrev pub NoneFull : List (Row S) → Type 0
  NoneFull rows = Each (λ r. IsFull (box_in r) → ⊥) rows

  -- c is the least of the live sessions that were found full
  pub record IsLeastFull (rows : List (Row S)) (c : ℕ) : Type 0 where
    pub place : ℕ
    pub row : Row S
    pub stands : slice_get rows place ≡ Some row
    pub conn : row.conn ≡ c
    pub full : IsFull (box_in row)
    pub least : (k : ℕ) (r : Row S) → k < place → slice_get rows k ≡ Some r → IsFull (box_in r) → ⊥

  -- from `old` on, the least session found full was cut, and its items added, again and again, with these words
  pub data Cuts (old : Standing S) : List ℕ → Standing S → Type 0 where
    none : Cuts old [] old
    one_more : {mid new : Standing S} {words : List ℕ} {e : Entry} (c word : ℕ)
        → Cuts old words mid → Sound mid.history mid.rows → IsLeastFull mid.rows c → IsCutOf c word e
        → new.history ≡ mid.history ▷ e → EachWent mid.rows new.rows → Cuts old (words ++ word ∷ []) new

  -- the entry e enters, its items are added, and then each session that was found full is cut, until none is left; in between and
  -- afterwards the rows are in step with the history
  pub record Accepted (old : Standing S) (e : Entry) (drawn : List ℕ) (new : Standing S) : Type 0 where
    pub mid : List (Row S)
    pub went : EachWent old.rows mid
    pub sound : Sound (old.history ▷ e) mid
    pub cuts : Cuts (record { history = old.history ▷ e; rows = mid }) drawn new
    pub none_full : NoneFull new.rows
    pub still_sound : Sound new.history new.rows
