-- An act was applied, or lost.
use Rattle.std.proofs.Common.{length, ◌≡◌, ℕ, Bool, true, false, cond, not, List, [], ◌∷◌, refl, sym, ap, ◌∙◌, subst}
use Rattle.realm.specs.declared.entry.Entry.{Entry}
use Rattle.realm.specs.declared.entry.Entry.TheVariants as entry
use Rattle.std.specs.Prelude.{Some}
use Rattle.std.proofs.lemmas.Bool.{true≢false, false_from_ne_true}
use Rattle.std.specs.List.{insert}
use Rattle.realm.specs.History.{History, ◌▷◌}
use Rattle.realm.specs.Sessions.{conn_of, live, may_come, may_join}
use Rattle.realm.specs.Words.{says_with_word}
use Rattle.wamp_messages.specs.declared.said.Said.{Said as TheSaid}
use Rattle.realm.proofs.Lemmas.{live-joined}
use Rattle.realm_actor.proofs.EntryLemmas.{not_joined}
use Rattle.realm_inbox.specs.declared.joining.Joining.{Joining}
use Rattle.realm_actor.specs.Rows.{box_in}
use Rattle.realm_actor.specs.Tables.{CutsNobody, EachMarked, EachWent, Sound, Standing}
use Rattle.realm_actor.specs.ActorView.{Working, standing_in}
use Rattle.realm_actor.specs.Words.{Words, ◌⊕◌}
use Rattle.realm_actor.proofs.WordSteps.{none_more, more_on}
use Rattle.realm_inbox.specs.declared.act.Act.{Act}
use Rattle.realm_inbox.specs.declared.act.Act.TheVariants.{Said, Join, Ping, Spoilt, Gone}
use Rattle.realm_inbox.specs.Joins.{is_join}
use Rattle.realm_actor.specs.declared.outcome.Outcome.{Outcome}
use Rattle.realm_actor.specs.declared.outcome.Outcome.TheVariants.{Applied, Dropped, NoMemory}
use Rattle.realm_actor.specs.declared.row.Row.{Row}
use Rattle.realm_actor.specs.Cuts.{Accepted, Cuts, IsCutOf, NoneFull}
use Rattle.realm_actor.specs.Handle.{MatchOutcome, Applies, EntersAs, Loses, WithRow, draws, entry_of, is_dropped, cut, not_live, nothing_drawn}

pub by_outcome : (r : Outcome) (A B D E : Type 0) → (A → D) → (B → E) → (C : Type 0) → MatchOutcome r A ⊥ B → MatchOutcome r D C E
by_outcome Applied A B D E f g C m = f m
by_outcome Dropped A B D E f g C m = absurd m
by_outcome NoMemory A B D E f g C m = g m

pub not_dropped : (r : Outcome) (A B : Type 0) → r ≡ Dropped → MatchOutcome r A ⊥ B → ⊥
not_dropped Applied A B is m = absurd (cc)
not_dropped Dropped A B is m = m
not_dropped NoMemory A B is m = absurd (cc)

-- a message enters with the word that it draws, or with none
pub enters_said : (S : Type 0) (c : ℕ) (said : TheSaid) (word : ℕ) → says_with_word said ≡ true → (before after : Words) → after ≡ before ⊕ (word ∷ [])
    → EntersAs {S = S} c (Said said) (entry.Said c word said) before after
enters_said S c said word told before after is =
    (word, ap (λ b. entry.Said c (cond b word 0) said) (sym told), is ∙ ap (λ b. before ⊕ cond b (word ∷ []) []) (sym told))

pub enters_silently : (S : Type 0) (c : ℕ) (said : TheSaid) → says_with_word said ≡ false → (before : Words)
    → EntersAs {S = S} c (Said said) (entry.Said c 0 said) before before
enters_silently S c said quiet before =
    (0, ap (λ b. entry.Said c (cond b 0 0) said) (sym quiet), sym (none_more before) ∙ ap (λ b. before ⊕ cond b (0 ∷ []) []) (sym quiet))

-- an act that is no Join

module _ {S : Type 0} where
  pub no_join : (act : Act S) → ((joining : Joining S) → act ≡ Join joining → ⊥) → is_join act ≡ false
  no_join (Join joining) other = absurd (other joining refl)
  no_join (Said said) other = refl
  no_join (Ping payload) other = refl
  no_join Spoilt other = refl
  no_join Gone other = refl

  pub no_joining : (act : Act S) → is_join act ≡ false → (joining : Joining S) → act ≡ Join joining → ⊥
  no_joining act other joining is = true≢false (sym (ap is_join is) ∙ other)

  pub dropped-live : (h : History) (c : ℕ) (act : Act S) → is_join act ≡ false → is_dropped h c act ≡ not (live h c)
  dropped-live h c (Join joining) other = absurd (cc)
  dropped-live h c (Said said) other = refl
  dropped-live h c (Ping payload) other = refl
  dropped-live h c Spoilt other = refl
  dropped-live h c Gone other = refl

  pub conn_of-entry_of : (c : ℕ) (act : Act S) (w : ℕ) → conn_of (entry_of c act w) ≡ c
  conn_of-entry_of c (Join joining) w = refl
  conn_of-entry_of c (Said said) w = refl
  conn_of-entry_of c (Ping payload) w = refl
  conn_of-entry_of c Spoilt w = refl
  conn_of-entry_of c Gone w = refl

  -- an act cuts nobody
  pub uncut-entry_of : (h : History) (c : ℕ) (act : Act S) (w : ℕ) → CutsNobody h (entry_of c act w)
  uncut-entry_of h c (Join joining) w d = refl
  uncut-entry_of h c (Said said) w d = refl
  uncut-entry_of h c (Ping payload) w d = refl
  uncut-entry_of h c Spoilt w d = refl
  uncut-entry_of h c Gone w d = refl

  pub may_come-entry_of : (h : History) (c : ℕ) (act : Act S) (w : ℕ) → is_join act ≡ false → live h c ≡ true → may_come h (entry_of c act w) ≡ true
  may_come-entry_of h c (Join joining) w other lives = absurd (cc)
  may_come-entry_of h c (Said said) w other lives = lives
  may_come-entry_of h c (Ping payload) w other lives = lives
  may_come-entry_of h c Spoilt w other lives = lives
  may_come-entry_of h c Gone w other lives = lives

  stays : (c : ℕ) (act : Act S) (rows : List (Row S)) → is_join act ≡ false → WithRow c act rows rows
  stays c (Join joining) rows other = absurd (cc)
  stays c (Said said) rows other = refl
  stays c (Ping payload) rows other = refl
  stays c Spoilt rows other = refl
  stays c Gone rows other = refl

-- the word of an act stands before those of the Cuts, where it has one
drawn_before : (b : Bool) (before : Words) (w : ℕ) (drawn : List ℕ) → ((before ⊕ cond b (w ∷ []) []) ⊕ drawn) ≡ (before ⊕ cond b (w ∷ drawn) drawn)
drawn_before true before w drawn = more_on before (w ∷ []) drawn
drawn_before false before w drawn = ap (λ s. s ⊕ drawn) (none_more before)

module _ {S : Type 0} (c : ℕ) (act : Act S) (old new : Working S) (e : Entry) (other : is_join act ≡ false) where
  pub applies_drawn : (w : ℕ) (start : Words) → start ≡ old.words ⊕ cond (draws act) (w ∷ []) [] → e ≡ entry_of c act w
      → (drawn : List ℕ) × Accepted (standing_in old) e drawn (standing_in new) × (new.words ≡ start ⊕ drawn) → Applies c act old new
  applies_drawn w start begun is a = record {
    word = w;
    drawn = a.0;
    rows = old.rows;
    brought = stays c act old.rows other;
    accepted = subst (λ x. Accepted (standing_in old) x a.0 (standing_in new)) is a.1;
    words = a.2 ∙ ap (λ s. s ⊕ a.0) begun ∙ drawn_before (draws act) old.words w a.0;
  }

-- a word that is lost is the only one
pub few_drawn : (b : Bool) (w : ℕ) → length (cond b (w ∷ []) []) ≡ cond b 1 0
few_drawn true w = refl
few_drawn false w = refl

module _ {S : Type 0} (c : ℕ) (act : Act S) (old new : Working S) where
  pub loses_by : (lost : List ℕ) (start : Words) → start ≡ old.words ⊕ lost → length lost ≡ cond (draws act) 1 0
      → (word : ℕ) × (drawn : List ℕ) × (e : Entry) × (marked : List (Row S)) × IsCutOf c word e × EachMarked c old.rows marked
      × Accepted (record (standing_in old) { rows = marked }) e drawn (standing_in new) × (new.words ≡ start ⊕ (word ∷ drawn))
      → Loses c act old new
  loses_by lost start is few b = cut lost b.0 b.1 b.2 b.3 few b.4 b.5 b.6 (b.7 ∙ ap (λ s. s ⊕ (b.0 ∷ b.1)) is)

-- a Join

pub not_live_yet : (h : History) (c : ℕ) → may_join h c ≡ true → live h c ≡ false
not_live_yet h c may = false_from_ne_true (live h c) (λ is. not_joined h c may (live-joined h c is))

module _ {S : Type 0} (c : ℕ) (joining : Joining S) (old new : Working S) where
  pub loses_early : may_join old.history c ≡ true → new.history ≡ old.history → new.rows ≡ old.rows → new.words ≡ old.words → Loses c (Join joining) old new
  loses_early may history same words =
      let is : old ≡ new = λ i. record { history = sym history i; rows = sym same i; words = sym words i } in
      subst (λ w. Loses c (Join joining) old w) is (nothing_drawn (not_live_yet old.history c may))

  pub loses_join : (word : ℕ) → may_join old.history c ≡ true → new.history ≡ old.history → new.rows ≡ old.rows → new.words ≡ old.words ⊕ (word ∷ []) → Loses c (Join joining) old new
  loses_join word may history same words =
      let is : record old { words = old.words ⊕ (word ∷ []) } ≡ new = λ i. record { history = sym history i; rows = sym same i; words = sym words i } in
      subst (λ w. Loses c (Join joining) old w) is (not_live (word ∷ []) (not_live_yet old.history c may) refl refl)

  pub applies_join : (held : List (Row S)) (mid : Standing S) (row : Row S) (place word : ℕ) (start : Words) (drawn : List ℕ)
      → held ≡ old.rows → EachWent (insert held place row) mid.rows → mid.history ≡ old.history ▷ entry.Join c word joining.authid → Sound mid.history mid.rows
      → Cuts mid drawn (standing_in new) → NoneFull new.rows → Sound new.history new.rows → start ≡ old.words ⊕ (word ∷ []) → new.words ≡ start ⊕ drawn
      → row.conn ≡ c → box_in row ≡ Some joining.outbox → row.is_cut ≡ false → row.is_lost ≡ false → row.was_lost ≡ false → joining.outbox.full_finds ≡ 0
      → Applies c (Join joining) old new
  applies_join held mid row place word start drawn same went history sound cuts none_full still is words conn outbox is_cut is_lost was_lost never = record {
    word = word;
    drawn = drawn;
    rows = insert old.rows place row;
    brought = record { place = place; row = row; rows_are = refl; conn = conn; outbox = outbox; is_cut = is_cut; is_lost = is_lost; was_lost = was_lost; never = never };
    accepted = record {
      mid = mid.rows;
      went = subst (λ x. EachWent (insert x place row) mid.rows) same went;
      sound = subst (λ x. Sound x mid.rows) history sound;
      cuts = subst (λ x. Cuts (record { history = x; rows = mid.rows }) drawn (standing_in new)) history cuts;
      none_full = none_full;
      still_sound = still;
    };
    words = words ∙ ap (λ s. s ⊕ drawn) is ∙ more_on old.words (word ∷ []) drawn;
  }
