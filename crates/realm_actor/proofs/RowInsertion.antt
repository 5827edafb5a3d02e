-- A row is put among the rows, for a connection that joins.
use Rattle.std.proofs.Common.{◌≡◌, ◌≢◌, ℕ, zero, suc, ◌<◌, ◌≤◌, true, false, not, ◌||◌, eqb, List, [], ◌∷◌, ◌++◌, length, refl, sym, ap, ◌∙◌, subst, arith}
use Rattle.std.specs.Prelude.{Some, None, ⊤, slice_get, MatchOption}
use Rattle.std.specs.List.{insert}
use Rattle.std.proofs.lemmas.Bool.{eq-eqb, or_left, or_right, ne_eqb, or_from, false_from_ne_true}
use Rattle.std.proofs.Math.Bool.{or-false}
use Rattle.realm.specs.declared.entry.Entry.{Entry}
use Rattle.outbox_queue.specs.Rule.{Grows}
use Rattle.realm.specs.History.{History, begun, ◌▷◌, Begins}
use Rattle.realm.specs.Sessions.{live, conn_of, may_join, may_come, IsHistory}
use Rattle.realm.specs.Yield.{owed, yield}
use Rattle.realm.proofs.Lemmas.{live-joined}
use Rattle.realm_actor.specs.declared.row.Row.{Row}
use Rattle.outbox_queue.specs.Tied.{history_of}
use Rattle.realm_actor.specs.OutboxHistory.{Box, Follows}
use Rattle.realm_actor.specs.Rows.{box_in, RowDue, Each, Ascending, PartsAt}
use Rattle.realm_actor.specs.Tables.{has_joined, Accounts, CutsNobody, IsOpen, HasRow, Sound, Ready}
use Rattle.realm_actor.proofs.RowPlaces.{within, insert_all}
use Rattle.realm_actor.proofs.EntryLemmas.{joined_after, quiet, of_box, not_joined}
use Rattle.realm_actor.proofs.WhoWasCut.{never_cut, join_cuts_nobody}
use Rattle.realm_actor.proofs.Causes.{accounts_new, accounts_uncut}
use Rattle.realm_inbox.specs.Over.{was_cut}

-- where the row at a place of the longer list comes from
data From {A : Type 0} (xs : List A) (i : ℕ) (a : A) (k : ℕ) (r : A) : Type 0 where
  before : k < i → slice_get xs k ≡ Some r → From xs i a k r
  here : k ≡ i → a ≡ r → From xs i a k r
  behind : (j : ℕ) → k ≡ suc j → i ≤ j → slice_get xs j ≡ Some r → From xs i a k r

module _ {A : Type 0} where
  from : (xs : List A) (i : ℕ) (a : A) (k : ℕ) (r : A) → i ≤ length xs → slice_get (insert xs i a) k ≡ Some r → From xs i a k r
  from [] zero a zero r h e = here refl (cc)
  from [] zero a (suc k) r h e = absurd (cc)
  from (x ∷ xs) zero a zero r h e = here refl (cc)
  from (x ∷ xs) zero a (suc k) r h e = behind k refl (omega arith) e
  from [] (suc i) a k r h e = absurd (omega (arith, h))
  from (x ∷ xs) (suc i) a zero r h e = before (omega arith) e
  from (x ∷ xs) (suc i) a (suc k) r h e =
      elim (from xs i a k r (omega (arith, h)) e) as (λ _. From (x ∷ xs) (suc i) a (suc k) r) [
        | before l g ↦ before (omega (arith, l)) g
        | here s g ↦ here (ap suc s) g
        | behind j s l g ↦ behind (suc j) (ap suc s) (omega (arith, l)) g
      ]

  at_place : (xs : List A) (i : ℕ) (a : A) → i ≤ length xs → slice_get (insert xs i a) i ≡ Some a
  at_place [] zero a h = refl
  at_place (x ∷ xs) zero a h = refl
  at_place [] (suc i) a h = absurd (omega (arith, h))
  at_place (x ∷ xs) (suc i) a h = at_place xs i a (omega (arith, h))

  still_there : (xs : List A) (i : ℕ) (a : A) (k : ℕ) (r : A) → i ≤ length xs → slice_get xs k ≡ Some r → (j : ℕ) × (slice_get (insert xs i a) j ≡ Some r)
  still_there [] i a k r h e = absurd (cc)
  still_there (x ∷ xs) zero a k r h e = (suc k, e)
  still_there (x ∷ xs) (suc i) a zero r h e = (zero, e)
  still_there (x ∷ xs) (suc i) a (suc k) r h e = let t = still_there xs i a k r (omega (arith, h)) e in (suc t.0, t.1)

-- who never joined is owed nothing
pub never_owed : (h : History) (c : ℕ) → IsHistory h → (has_joined h c ≡ true → ⊥) → owed h c ≡ []
never_owed (begun grants) c legal n = refl
never_owed (h ▷ e) c legal n =
    let apart : has_joined h c || eqb (conn_of e) c ≡ true → ⊥ = λ y. n (joined_after h e c legal.1 y) in
    let dead : live h c || eqb (conn_of e) c ≡ false =
    or_from (live h c) (eqb (conn_of e) c)
    (false_from_ne_true (live h c) (λ y. apart (or_left (has_joined h c) (eqb (conn_of e) c) (live-joined h c y))))
    (false_from_ne_true (eqb (conn_of e) c) (λ y. apart (or_right (has_joined h c) (eqb (conn_of e) c) y))) in
    ap (λ l. l ++ yield h e c) (never_owed h c legal.0 (λ y. apart (or_left (has_joined h c) (eqb (conn_of e) c) y))) ∙ quiet h e c dead

new_follows : (h : History) (o : Box) → owed h o.conn ≡ [] → o.added ≡ [] → o.history ≡ None → o.full_finds ≡ 0 → Follows h [] o
new_follows h o none empty unseen never =
    let all : o.added ++ [] ≡ owed h o.conn = ap (λ l. l ++ []) empty ∙ sym none in
    record {
      begins = ([], all);
      whole = λ _. all;
      stood = λ full. absurd (omega (arith, full, never));
      seen = subst (λ k. Grows Begins (history_of k) (Some h)) (sym unseen) tt;
      closed = λ _. refl;
    }

module _ {S : Type 0} where
  has_somewhere : (rows : List (Row S)) (i : ℕ) (a : Row S) (c : ℕ) → i ≤ length rows → HasRow rows c → HasRow (insert rows i a) c
  has_somewhere rows i a c h has =
      let s = has.1 in
      let t = still_there rows i a has.0 s.1 h s.2 in
      (t.0, (within (insert rows i a) t.0 s.1 t.1, s.1, t.1, s.3))

  -- the rows are ready for the Join of a connection that may join, with its new row
  module _ (h : History) (e : Entry) (c : ℕ) (rows : List (Row S)) (i : ℕ) (a : Row S) (o : Box) (own : conn_of e ≡ c) (may : may_join h c ≡ true) (sound : Sound h rows)
      (parts : PartsAt rows c i) (conn : a.conn ≡ c) (box : box_in a ≡ Some o) (of : o.conn ≡ c) (empty : o.added ≡ []) (unseen : o.history ≡ None) (fresh : o.is_closed ≡ false) (never : o.full_finds ≡ 0) (whole : a.was_lost ≡ false)
      (come : may_come h e ≡ true) where
    longer_rows : List (Row S)
    longer_rows = insert rows i a

    other : (k : ℕ) (r : Row S) → slice_get rows k ≡ Some r → r.conn ≢ c
    other k r get same = not_joined h c may (subst (λ d. has_joined h d ≡ true) same (sound.joined k r get))

    ascending_new : Ascending (insert rows i a)
    ascending_new p q r s less er es =
        elim (from rows i a p r parts.0 er) as (λ _. r.conn < s.conn) [
          | before l gr ↦ elim (from rows i a q s parts.0 es) as (λ _. r.conn < s.conn) [
            | before m gs ↦ sound.ascending p q r s less gr gs
            | here m gs ↦ (let b = parts.1 p r l gr in let d : a.conn ≡ s.conn = ap (λ x. x.conn) gs in omega (arith, b, d, conn))
            | behind j m n gs ↦ sound.ascending p j r s (omega (arith, l, n)) gr gs
          ]
          | here l gr ↦ elim (from rows i a q s parts.0 es) as (λ _. r.conn < s.conn) [
            | before m gs ↦ absurd (omega (arith, l, m, less))
            | here m gs ↦ absurd (omega (arith, l, m, less))
            | behind j m n gs ↦ (let b = parts.2 j s n gs in let d : a.conn ≡ r.conn = ap (λ x. x.conn) gr in let away = other j s gs in omega (arith, b, d, conn, away))
          ]
          | behind t u v gr ↦ elim (from rows i a q s parts.0 es) as (λ _. r.conn < s.conn) [
            | before m gs ↦ absurd (omega (arith, u, v, m, less))
            | here m gs ↦ absurd (omega (arith, u, v, m, less))
            | behind j m n gs ↦ sound.ascending t j r s (omega (arith, u, m, less)) gr gs
          ]
        ]

    each_new : (P : Row S → Type 0) → P a → Each P rows → Each P (insert rows i a)
    each_new P first rest = insert_all P rows i a rest first

    here_test : eqb (conn_of e) a.conn ≡ true
    here_test = eq-eqb (conn_of e) a.conn (own ∙ sym conn)

    away_test : (r : Row S) → r.conn ≢ c → eqb (conn_of e) r.conn ≡ false
    away_test r n = ne_eqb (conn_of e) r.conn (λ same. n (sym same ∙ own))

    open_new : IsOpen (live h a.conn || eqb (conn_of e) a.conn) (box_in a)
    open_new = subst (λ x. IsOpen (live h a.conn || eqb (conn_of e) a.conn) x) (sym box) (fresh ∙ sym (ap not (or_right (live h a.conn) (eqb (conn_of e) a.conn) here_test)))

    uncut : CutsNobody h e
    uncut = join_cuts_nobody h e c own may come

    pub ready_join : Ready e h (insert rows i a)
    ready_join = record {
      ascending = ascending_new;
      in_step = each_new (λ r. RowDue h [] r)
          (of_box h a (subst (λ x. MatchOption x ⊤ (λ y. Follows h [] y)) (sym box) (new_follows h o (ap (owed h) of ∙ never_owed h c sound.legal (not_joined h c may)) empty unseen never)))
          sound.in_step;
      is_open = each_new (λ r. IsOpen (live h r.conn || eqb (conn_of e) r.conn) (box_in r)) open_new
          (λ k r get. subst (λ b. IsOpen b (box_in r)) (sym (ap (λ b. live h r.conn || b) (away_test r (other k r get)) ∙ or-false (live h r.conn))) (sound.is_open k r get));
      joined = each_new (λ r. has_joined h r.conn || eqb (conn_of e) r.conn ≡ true) (or_right (has_joined h a.conn) (eqb (conn_of e) a.conn) here_test)
          (λ k r get. or_left (has_joined h r.conn) (eqb (conn_of e) r.conn) (sound.joined k r get));
      accounted = each_new (λ r. Accounts (h ▷ e) r)
          (accounts_new (h ▷ e) a (uncut a.conn ∙ ap (was_cut h) conn ∙ never_cut h c sound.legal (not_joined h c may)) whole)
          (λ k r get. accounts_uncut h e r uncut (sound.accounted k r get));
      has_rows = λ d is_live. has_somewhere rows i a d parts.0 (sound.has_rows d is_live);
      own = (i, (within (insert rows i a) i a (at_place rows i a parts.0), a, at_place rows i a parts.0, conn ∙ sym own));
      legal = sound.legal;
    }
