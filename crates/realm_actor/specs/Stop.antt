-- A stop closes each live session, row after row.
use Rattle.std.specs.Prelude.{◌≡◌, ℕ, Bool, suc, true, false, List, [], ◌∷◌, ◌++◌, Some, slice_get, length}
use Rattle.realm.specs.declared.entry.Entry.{Entry}
use Rattle.realm.specs.declared.entry.Entry.TheVariants.{Closed}
use Rattle.realm.specs.Sessions.{live}
use Rattle.realm_actor.specs.declared.outcome.Outcome.{Outcome}
use Rattle.realm_actor.specs.declared.outcome.Outcome.TheVariants.{Applied, NoMemory}
use Rattle.realm_actor.specs.declared.row.Row.{Row}
use Rattle.realm_actor.specs.OutboxHistory.{Box}
use Rattle.realm_actor.specs.Tables.{Standing, Went, EachMarked}
use Rattle.realm_actor.specs.Cuts.{Accepted, IsCutOf}
use Rattle.realm_actor.specs.ActorView.{Working, standing_in}
use Rattle.realm_actor.specs.Handle.{EachUnmarked}
use Rattle.realm_actor.specs.LastCut.{Names, is_in, outbox_of}
use Rattle.realm_actor.specs.Words.{◌⊕◌}

module _ {S : Type 0} where
  -- what a stop does for the row at the place i, with the words that are drawn and the connection that is lost, if one is
  pub data ClosesOne (i : ℕ) (old : Standing S) : List ℕ → List ℕ → Standing S → Type 0 where
    -- its session isn't live
    passed : (r : Row S) → slice_get old.rows i ≡ Some r → live old.history r.conn ≡ false → ClosesOne i old [] [] old
    -- a Closed enters, then the Cuts
    closed : {new : Standing S} (r : Row S) (word : ℕ) (drawn : List ℕ) → slice_get old.rows i ≡ Some r → live old.history r.conn ≡ true
        → Accepted old (Closed r.conn word) drawn new → ClosesOne i old (word ∷ drawn) [] new
    -- memory for it was refused: its word is lost, and the session is cut instead
    refused : {new : Standing S} (r : Row S) (gone word : ℕ) (drawn : List ℕ) (e : Entry) (marked : List (Row S))
        → slice_get old.rows i ≡ Some r → live old.history r.conn ≡ true → IsCutOf r.conn word e → EachMarked r.conn old.rows marked
        → Accepted (record { history = old.history; rows = marked }) e drawn new → ClosesOne i old (gone ∷ word ∷ drawn) (r.conn ∷ []) new

  -- the same for the rows before the place i, one after another
  pub data Closes (old : Standing S) : ℕ → List ℕ → List ℕ → Standing S → Type 0 where
    first : Closes old 0 [] [] old
    one_more : {i : ℕ} {words lost more gone : List ℕ} {mid new : Standing S} → Closes old i words lost mid → ClosesOne i mid more gone new
        → Closes old (suc i) (words ++ more) (lost ++ gone) new

abbrev pub is_nil : List ℕ → Bool
is_nil [] = true
is_nil (c ∷ cs) = false

-- a stop is applied where nobody was lost
abbrev pub outcome_of : List ℕ → Outcome
outcome_of [] = Applied
outcome_of (c ∷ cs) = NoMemory

module _ {S : Type 0} where
  -- what a stop does, and whom it names: each live session is closed, ascending, and afterwards none is live; `ends` are the rows
  -- with the marks that it made
  pub record Stops (result : Outcome) (old new : Working S) (named : List ℕ) : Type 0 where
    pub words : List ℕ
    pub lost : List ℕ
    pub ends : List (Row S)
    pub closes : Closes (standing_in old) (length old.rows) words lost (record { history = new.history; rows = ends })
    pub outcome : result ≡ outcome_of lost
    pub unmarked : EachUnmarked ends new.rows
    pub given : new.words ≡ old.words ⊕ words
    pub names : Names (λ d. is_in d lost ≡ true) old.rows new.rows named
    pub held : (d : ℕ) (o : Box) → outbox_of old.rows d ≡ Some o → (p : Box) × (outbox_of new.rows d ≡ Some p) × Went o p
    pub none_live : (c : ℕ) → live new.history c ≡ false
