-- What a post does: which entry it is, whether it is dropped, and whose row comes.
use Rattle.std.specs.Prelude.{◌≡◌, ℕ, Bool, true, false, not, cond, List, [], ◌∷◌, Some, slice_get, length}
use Rattle.std.specs.List.{insert}
use Rattle.realm.specs.declared.entry.Entry.{Entry}
use Rattle.realm.specs.declared.entry.Entry.TheVariants as entry
use Rattle.realm.specs.Words.{says_with_word}
use Rattle.realm.specs.History.{History}
use Rattle.realm.specs.Sessions.{live, may_join}
use Rattle.realm_inbox.specs.declared.joining.Joining.{Joining}
use Rattle.realm_inbox.specs.declared.act.Act.{Act}
use Rattle.realm_inbox.specs.declared.act.Act.TheVariants.{Join, Said, Ping, Spoilt, Gone}
use Rattle.realm_inbox.specs.declared.letter.Letter.{Letter}
use Rattle.realm_inbox.specs.Seats.{conn_of_letter, act_of_letter}
use Rattle.realm_actor.specs.declared.outcome.Outcome.{Outcome}
use Rattle.realm_actor.specs.declared.outcome.Outcome.TheVariants.{Applied, Dropped, NoMemory}
use Rattle.realm_actor.specs.declared.row.Row.{Row}
use Rattle.realm_actor.specs.Rows.{box_in}
use Rattle.realm_actor.specs.OutboxHistory.{Box}
use Rattle.realm_actor.specs.Tables.{Went, EachMarked}
use Rattle.realm_actor.specs.LastCut.{Names, outbox_of}
use Rattle.realm_actor.specs.Cuts.{Accepted, IsCutOf}
use Rattle.realm_actor.specs.ActorView.{Working, standing_in}
use Rattle.realm_actor.specs.Words.{Words, ◌⊕◌}

abbrev pub MatchOutcome : Outcome → Type 0 → Type 0 → Type 0 → Type 0
MatchOutcome Applied P Q R = P
MatchOutcome Dropped P Q R = Q
MatchOutcome NoMemory P Q R = R

module _ {S : Type 0} where
  -- the act draws a word
  abbrev pub draws : Act S → Bool
  draws (Join joining) = true
  draws (Said said) = says_with_word said
  draws (Ping payload) = false
  draws Spoilt = true
  draws Gone = true

  -- the entry of an act of c by this word; where none is drawn the word is 0
  abbrev pub entry_of : ℕ → Act S → ℕ → Entry
  entry_of c (Join joining) word = entry.Join c word joining.authid
  entry_of c (Said said) word = entry.Said c (cond (says_with_word said) word 0) said
  entry_of c (Ping payload) word = entry.Ping c payload
  entry_of c Spoilt word = entry.Spoilt c word
  entry_of c Gone word = entry.Gone c word

  -- the act enters as this entry; the words after it are those before it, and the one that it draws
  abbrev pub EntersAs : ℕ → Act S → Entry → Words → Words → Type 0
  EntersAs c act e before after = (word : ℕ) × (e ≡ entry_of c act word) × (after ≡ before ⊕ cond (draws act) (word ∷ []) [])

  -- dropped: a Join of c where c may not join, or another act of c where c isn't live
  abbrev pub is_dropped : History → ℕ → Act S → Bool
  is_dropped h c (Join joining) = not (may_join h c)
  is_dropped h c (Said said) = not (live h c)
  is_dropped h c (Ping payload) = not (live h c)
  is_dropped h c Spoilt = not (live h c)
  is_dropped h c Gone = not (live h c)

  -- a row of c stands among the rows, with what the Join brought
  pub record Brings (c : ℕ) (joining : Joining S) (olds rows : List (Row S)) : Type 0 where
    pub place : ℕ
    pub row : Row S
    pub rows_are : rows ≡ insert olds place row
    pub conn : row.conn ≡ c
    pub outbox : box_in row ≡ Some joining.outbox
    pub is_cut : row.is_cut ≡ false
    pub is_lost : row.is_lost ≡ false
    pub was_lost : row.was_lost ≡ false
    pub never : joining.outbox.full_finds ≡ 0

  -- the rows with that of a Join; they stay for another act
  abbrev pub WithRow : ℕ → Act S → List (Row S) → List (Row S) → Type 0
  WithRow c (Join joining) olds rows = Brings c joining olds rows
  WithRow c (Said said) olds rows = rows ≡ olds
  WithRow c (Ping payload) olds rows = rows ≡ olds
  WithRow c Spoilt olds rows = rows ≡ olds
  WithRow c Gone olds rows = rows ≡ olds

  -- the act of c enters as an entry, then the Cuts; the words before, the entry's where it draws one, and those of the Cuts
  pub record Applies (c : ℕ) (act : Act S) (old new : Working S) : Type 0 where
    pub word : ℕ
    pub drawn : List ℕ
    pub rows : List (Row S)
    pub brought : WithRow c act old.rows rows
    pub accepted : Accepted (record { history = old.history; rows = rows }) (entry_of c act word) drawn (standing_in new)
    pub words : new.words ≡ old.words ⊕ cond (draws act) (word ∷ drawn) drawn

  -- for want of memory the session of c is cut instead of the act, if it is live, and then who is found full; the words before,
  -- the act's own, which is lost, and those of the Cuts. A word is lost only where the act draws one, and always where c is live
  pub data Loses (c : ℕ) (act : Act S) (old : Working S) : Working S → Type 0 where
    not_live : (lost : List ℕ) → live old.history c ≡ false → draws act ≡ true → length lost ≡ 1
        → Loses c act old (record old { words = old.words ⊕ lost })
    nothing_drawn : live old.history c ≡ false → Loses c act old old
    cut : {new : Working S} (lost : List ℕ) (word : ℕ) (drawn : List ℕ) (e : Entry) (marked : List (Row S))
        → length lost ≡ cond (draws act) 1 0 → IsCutOf c word e → EachMarked c old.rows marked
        → Accepted (record { history = old.history; rows = marked }) e drawn (standing_in new)
        → new.words ≡ (old.words ⊕ lost) ⊕ (word ∷ drawn) → Loses c act old new

  -- the entry e enters, and then who is found full is cut; the words before, and those of the Cuts
  abbrev pub TakesEntry : Entry → Working S → Working S → Type 0
  TakesEntry e old new = (drawn : List ℕ) × Accepted (standing_in old) e drawn (standing_in new) × (new.words ≡ old.words ⊕ drawn)

  -- the session of c is marked as lost and cut instead, and then who is found full; the words before, and those of the Cuts
  abbrev pub CutsInstead : ℕ → Working S → Working S → Type 0
  CutsInstead c old new =
      (word : ℕ) × (drawn : List ℕ) × (e : Entry) × (marked : List (Row S))
      × IsCutOf c word e
      × EachMarked c old.rows marked
      × Accepted (record (standing_in old) { rows = marked }) e drawn (standing_in new)
      × (new.words ≡ old.words ⊕ (word ∷ drawn))

  -- an entry e of c, whose session is live, is taken in, by its outcome
  abbrev pub TakesIn : Outcome → ℕ → Entry → Working S → Working S → Type 0
  TakesIn result c e old new = MatchOutcome result (TakesEntry e old new) ⊥ (CutsInstead c old new)

  -- nothing changed
  abbrev pub Stays : Working S → Working S → Type 0
  Stays old new = (new.history ≡ old.history) × (new.rows ≡ old.rows) × (new.words ≡ old.words)

  -- p is o without its marks
  pub record Unmarked (o p : Row S) : Type 0 where
    pub conn : p.conn ≡ o.conn
    pub held : p.held ≡ o.held
    pub is_cut : p.is_cut ≡ false
    pub is_lost : p.is_lost ≡ false
    pub was_lost : p.was_lost ≡ o.was_lost

  abbrev pub EachUnmarked : List (Row S) → List (Row S) → Type 0
  EachUnmarked olds news =
      (length news ≡ length olds)
      × ((k : ℕ) (o p : Row S) → slice_get olds k ≡ Some o → slice_get news k ≡ Some p → Unmarked o p)

  -- what an act of c does, by its outcome
  abbrev pub Acts : Outcome → ℕ → Act S → Working S → Working S → Type 0
  Acts result c act old new =
      MatchOutcome result (Applies c act old new) (Stays old new × (is_dropped old.history c act ≡ true)) (Loses c act old new)

module _ {S : Type 0} where
  -- what the handling of a letter does, by its outcome, and whom it names: `ends` are the rows with the marks that it made
  pub record Does (result : Outcome) (l : Letter S) (old new : Working S) (named : List ℕ) : Type 0 where
    pub ends : List (Row S)
    pub acts : Acts result (conn_of_letter l) (act_of_letter l) old (record new { rows = ends })
    pub unmarked : EachUnmarked ends new.rows
    pub names : Names (λ d. (result ≡ NoMemory) × (live old.history d ≡ true) × (d ≡ conn_of_letter l)) old.rows new.rows named
    pub held : (d : ℕ) (o : Box) → outbox_of old.rows d ≡ Some o → (p : Box) × (outbox_of new.rows d ≡ Some p) × Went o p
    pub joined : (joining : Joining S) → act_of_letter l ≡ Join joining → result ≡ Applied
        → (p : Box) × (outbox_of new.rows (conn_of_letter l) ≡ Some p) × Went joining.outbox p
