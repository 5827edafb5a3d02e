-- A session that is found full is cut.
use Rattle.std.proofs.Common.{◌≡◌, ℕ, ◌+◌, ◌<◌, ◌≤◌, Bool, true, false, ◌||◌, eqb, List, [], length, get_or, refl, sym, ap, ◌∙◌, subst, ⊎_elim, arith}
use Rattle.std.specs.Prelude.{Option, Some, None, ⊤, slice_get, Result, Ok, Err, MatchResult}
use Rattle.std.specs.Result.{is_ok, is_err}
use Rattle.std.proofs.lemmas.Bool.{eqb-true, or_left}
use Rattle.realm.specs.declared.entry.Entry.{Entry}
use Rattle.realm.specs.declared.entry.Entry.TheVariants.{Cut}
use Rattle.realm.specs.History.{History, ◌▷◌}
use Rattle.realm.specs.Sessions.{live, conn_of, IsHistory}
use Rattle.realm_actor.specs.declared.row.Row.{Row}
use Rattle.realm_actor.specs.OutboxHistory.{Box}
use Rattle.realm_actor.specs.Rows.{box_in, RowDue, Each, Ascending}
use Rattle.realm_actor.specs.Tables.{has_joined, Accounts, CutsNobody, HasRow, IsOpen, Sound, Ready}
use Rattle.realm_actor.specs.Cuts.{IsFull, IsLeastFull}
use Rattle.realm_actor.proofs.RowPlaces.{read, same_place, one_place, below_or}
use Rattle.realm_actor.proofs.Causes.{accounts_uncut, accounts_full}

or_same : (h : History) (c d : ℕ) → live h c ≡ true → live h d || eqb c d ≡ live h d
or_same h c d is_live = at (live h d) (eqb c d) refl refl
  where
    at : (a b : Bool) → live h d ≡ a → eqb c d ≡ b → a || b ≡ a
    at true b dead same = refl
    at false true dead same = let here : live h c ≡ false = ap (live h) (eqb-true c d same) ∙ dead in absurd (cc)
    at false false dead same = refl

module _ {S : Type 0} where
  -- the rows are in step with the history, whoever was cut
  pub record InStep (h : History) (rows : List (Row S)) : Type 0 where
    pub ascending : Ascending rows
    pub in_step : Each (λ r. RowDue h [] r) rows
    pub is_open : Each (λ r. IsOpen (live h r.conn) (box_in r)) rows
    pub joined : Each (λ r. has_joined h r.conn ≡ true) rows
    pub has_rows : (c : ℕ) → live h c ≡ true → HasRow rows c
    pub legal : IsHistory h

  pub steps_of : (h : History) (rows : List (Row S)) → Sound h rows → InStep h rows
  steps_of h rows sound = record { ascending = sound.ascending; in_step = sound.in_step; is_open = sound.is_open; joined = sound.joined; has_rows = sound.has_rows; legal = sound.legal }

  -- they are ready for an entry of a live session, if whom it cuts has its cause
  pub ready_for : (h : History) (e : Entry) (c : ℕ) (rows : List (Row S)) → conn_of e ≡ c → live h c ≡ true → InStep h rows → Each (λ r. Accounts (h ▷ e) r) rows → Ready e h rows
  ready_for h e c rows own is_live steps accounted =
      let lives : live h (conn_of e) ≡ true = ap (live h) own ∙ is_live in
      record {
        ascending = steps.ascending;
        in_step = steps.in_step;
        is_open = λ k r get. subst (λ b. IsOpen b (box_in r)) (sym (or_same h (conn_of e) r.conn lives)) (steps.is_open k r get);
        joined = λ k r get. or_left (has_joined h r.conn) (eqb (conn_of e) r.conn) (steps.joined k r get);
        accounted = accounted;
        has_rows = steps.has_rows;
        own = steps.has_rows (conn_of e) lives;
        legal = steps.legal;
      }

  -- the same of one that cuts nobody
  pub ready_live : (h : History) (e : Entry) (c : ℕ) (rows : List (Row S)) → conn_of e ≡ c → live h c ≡ true → Sound h rows → CutsNobody h e → Ready e h rows
  ready_live h e c rows own is_live sound uncut = ready_for h e c rows own is_live (steps_of h rows sound) (λ k r get. accounts_uncut h e r uncut (sound.accounted k r get))

  -- who is ready for a Cut is so for one by another word
  pub ready_word : (h : History) (c : ℕ) (word other : Option ℕ) (rows : List (Row S)) → Ready (Cut c word) h rows → Ready (Cut c other) h rows
  ready_word h c word other rows r = record {
    ascending = r.ascending;
    in_step = r.in_step;
    is_open = r.is_open;
    joined = r.joined;
    accounted = λ k s get. let a = r.accounted k s get in record { cut = a.cut; lost = a.lost };
    has_rows = r.has_rows;
    own = r.own;
    legal = r.legal;
  }

box_live : (b : Bool) (o : Option Box) → IsOpen b o → IsFull o → b ≡ true
box_live b None is_open full = absurd full
box_live true (Some o) is_open full = refl
box_live false (Some o) is_open full = let closed = full.1 in absurd (cc)

-- who is found full and not closed is live
pub full_live : {S : Type 0} (h : History) (rows : List (Row S)) (c : ℕ) → Sound h rows → IsLeastFull rows c → live h c ≡ true
full_live h rows c sound l = subst (λ d. live h d ≡ true) l.conn (box_live (live h l.row.conn) (box_in l.row) (sound.is_open l.place l.row l.stands) l.full)

-- the rows are ready for the Cut of who is found full
pub ready_full : {S : Type 0} (h : History) (rows : List (Row S)) (c : ℕ) (word : Option ℕ) → Sound h rows → IsLeastFull rows c → Ready (Cut c word) h rows
ready_full h rows c word sound l = ready_for h (Cut c word) c rows refl (full_live h rows c sound l) (steps_of h rows sound)
    (λ k r get. accounts_full h c word r
    (λ own.
    let one : k ≡ l.place = one_place rows c k l.place r l.row sound.ascending get l.stands own l.conn in
    subst (λ s. IsFull (box_in s)) (same_place rows l.place l.row r l.stands (sym (ap (slice_get rows) one) ∙ get)) l.full)
    (sound.accounted k r get))

pub below_next : {A : Type 0} (P : A → Type 0) (rows : List A) (i : ℕ) (d : A) → ((k : ℕ) (r : A) → k < i → slice_get rows k ≡ Some r → P r → ⊥)
    → i < length rows → (P (get_or rows i d) → ⊥) → (k : ℕ) (r : A) → k < i + 1 → slice_get rows k ≡ Some r → P r → ⊥
below_next P rows i d before inside here k r less get p = ⊎_elim
    (λ (low : k < i). before k r low get p)
    (λ (high : i ≤ k). let one : k ≡ i = omega (arith, high, less) in
    let same : r ≡ get_or rows i d = same_place rows i r (get_or rows i d) (sym (ap (slice_get rows) one) ∙ get) (read rows i d inside) in
    here (subst P same p))
    (below_or k i)

pub on_ok : {T E : Type 0} (r : Result T E) (P : Type 0) → is_ok r ≡ true → MatchResult r (λ _. P) (λ _. ⊤) → P
on_ok (Ok x) P is m = m
on_ok (Err e) P is m = absurd (cc)

pub not_err : {T E : Type 0} (r : Result T E) (P : Type 0) → is_err r ≡ false → MatchResult r (λ _. P) (λ _. ⊤) → P
not_err (Ok x) P is m = m
not_err (Err e) P is m = absurd (cc)

pub on_err : {T E : Type 0} (r : Result T E) (P : Type 0) → is_err r ≡ true → MatchResult r (λ _. ⊤) (λ _. P) → P
on_err (Ok x) P is m = absurd (cc)
on_err (Err e) P is m = m
