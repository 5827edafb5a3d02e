-- The outboxes of sessions that have ended are handed over.
use Rattle.std.proofs.Common.{◌≡◌, ◌≢◌, ℕ, suc, ◌+◌, ◌<◌, ◌≤◌, Bool, true, false, cond, List, [], ◌∷◌, append-nil, filter, length, set, get_or, refl, sym, ap, ◌∙◌, subst, ⊎_elim, arith}
use Rattle.std.specs.Prelude.{⊤, MatchOption, Option, Some, None, is_some, option_map, slice_get}
use Rattle.std.proofs.Math.ListN.{length-set}
use Rattle.std.proofs.lemmas.Bool.{false_from_ne_true}
use Rattle.atomic_table.specs.Seated.{TableId}
use Rattle.outbox_queue.specs.Ends.{Vouches}
use Rattle.outbox_queue.specs.Rule.{Belongs}
use Rattle.outbox_queue.specs.Tied.{Kept}
use Rattle.realm.specs.History.{History}
use Rattle.realm.specs.Sessions.{live, who}
use Rattle.realm.specs.Yield.{owed}
use Rattle.realm.proofs.NothingAfterAnEnding.{owed-over}
use Rattle.realm.proofs.Lemmas.{clash}
use Rattle.realm_inbox.specs.Over.{OwesNoMore, was_cut}
use Rattle.eligibility.specs.declared.who.Who.{Who}
use Rattle.realm_actor.specs.declared.row.HeldOutbox.{HeldOutbox}
use Rattle.realm_actor.specs.declared.row.Row.{Row}
use Rattle.realm_actor.specs.Rows.{RowDue, RowHome}
use Rattle.realm_actor.specs.OutboxHistory.{Box, Follows, IsHome}
use Rattle.realm_actor.specs.Settle.{EachParted, Parted}
use Rattle.realm_actor.specs.Tables.{has_joined, Accounts, HasCause}
use Rattle.realm_actor.proofs.RowPlaces.{read, within, same_place, written}
use Rattle.realm_actor.proofs.WhoWasCut.{cut_over}

none_of : (o : Option Who) → is_some o ≡ false → o ≡ None
none_of None is = refl
none_of (Some w) is = absurd (cc is)

-- who has joined and isn't live is owed nothing more, and cut no more
pub owes_no_more : (h : History) (c : ℕ) → has_joined h c ≡ true → live h c ≡ false → OwesNoMore h c
owes_no_more h c joined dead = record {
  asked = joined;
  owes = λ k begins is_history. owed-over h k c (record { joined = joined; ended = none_of (who h c) dead }) begins is_history;
  cuts = λ k begins is_history. cut_over h k c joined dead begins is_history;
}

-- a history vouches for an outbox that follows it, of a session that isn't live and was cut only where it had a cause
pub vouches : (h : History) (chronicle : TableId) (o : Box) (c : ℕ) (is_lost : Bool) → Follows h [] o → o.conn ≡ c → has_joined h c ≡ true → live h c ≡ false
    → (was_cut h c ≡ true → HasCause is_lost (Some o)) → (is_lost ≡ true → was_cut h c ≡ true)
    → Vouches (λ (k : Kept History) conn. owed k.history conn) (λ (k : Kept History) conn. OwesNoMore k.history conn) (λ (k : Kept History) conn. was_cut k.history conn) (record { chronicle = chronicle; history = h }) o.conn o.added o.full_finds is_lost
vouches h chronicle o c is_lost follows own joined dead cause lost = record {
  over = subst (λ n. OwesNoMore h n) (sym own) (owes_no_more h c joined dead);
  begins = follows.begins;
  whole = λ never. sym (append-nil o.added) ∙ follows.whole never;
  uncut = λ never kept. ap (was_cut h) own ∙ false_from_ne_true (was_cut h c) (λ is. ⊎_elim
      (λ (full : 0 < o.full_finds). absurd (omega (arith, full, never)))
      (λ (gone : is_lost ≡ true). clash is_lost gone kept)
      (cause is));
  lost = λ gone. ap (was_cut h) own ∙ lost gone;
}

pub of_home : (chronicle : TableId) (h : History) (o : Box) → IsHome chronicle o → Belongs (λ (k : Kept History) name. k.chronicle ≡ name) (record { chronicle = chronicle; history = h }) o.chronicle
of_home chronicle h o home picked is = home picked is

module _ {S : Type 0} where
  pub follows_held : (h : History) (r : Row S) (x : HeldOutbox S) → r.held ≡ Some x → RowDue h [] r → Follows h [] x.outbox
  follows_held h r x is due = subst (λ (held : Option (HeldOutbox S)). MatchOption held ⊤ (λ e. Follows h [] e.outbox)) is due

  -- a held outbox has its cause
  pub cause_held : (h : History) (r : Row S) (x : HeldOutbox S) → r.held ≡ Some x → Accounts h r → was_cut h r.conn ≡ true → HasCause r.was_lost (Some x.outbox)
  cause_held h r x is a cut = subst (λ (held : Option (HeldOutbox S)). HasCause r.was_lost (option_map (λ e. e.outbox) held)) is (a.cut cut)

  pub home_held : (own : TableId) (r : Row S) (x : HeldOutbox S) → r.held ≡ Some x → RowHome own r → IsHome own x.outbox
  home_held own r x is home = home x.outbox (ap (option_map (λ (e : HeldOutbox S). e.outbox)) is)

  -- the rows before a place were parted with, the others are as they were
  pub record PartedTo (h : History) (firsts rows : List (Row S)) (i : ℕ) : Type 0 where
    pub same_length : length rows ≡ length firsts
    pub done : (k : ℕ) (o p : Row S) → k < i → slice_get firsts k ≡ Some o → slice_get rows k ≡ Some p → Parted h o p
    pub todo : (k : ℕ) (p : Row S) → i ≤ k → slice_get rows k ≡ Some p → slice_get firsts k ≡ Some p

  pub parted_first : (h : History) (rows : List (Row S)) → PartedTo h rows rows 0
  parted_first h rows = record { same_length = refl; done = λ k o p less e f. absurd (omega (arith, less)); todo = λ k p less e. e }

  pub parted_next : (h : History) (firsts rows : List (Row S)) (i : ℕ) (d s : Row S) → i < length rows → PartedTo h firsts rows i → Parted h (get_or rows i d) s → PartedTo h firsts (set rows i s) (i + 1)
  parted_next h firsts rows i d s inside n u =
      let r : Row S = get_or rows i d in
      let here = n.todo i r (omega arith) (read rows i d inside) in
      record {
        same_length = length-set rows i s ∙ n.same_length;
        done = λ k o p less eo ep. ⊎_elim
            (λ (at : (k ≡ i) × (s ≡ p)).
            let one : r ≡ o = same_place firsts i r o here (sym (ap (slice_get firsts) at.0) ∙ eo) in
            subst (λ q. Parted h o q) at.1 (subst (λ q. Parted h q s) one u))
            (λ (at : (k ≢ i) × (slice_get rows k ≡ Some p)). let m = at.0 in n.done k o p (omega (arith, less, m)) eo at.1)
            (written rows i k s p ep);
        todo = λ k p less ep. ⊎_elim
            (λ (at : (k ≡ i) × (s ≡ p)). absurd (omega (arith, less, at.0)))
            (λ (at : (k ≢ i) × (slice_get rows k ≡ Some p)). n.todo k p (omega (arith, less)) at.1)
            (written rows i k s p ep);
      }

  pub parted_last : (h : History) (firsts rows : List (Row S)) (i : ℕ) → length rows ≤ i → PartedTo h firsts rows i → EachParted h firsts rows
  parted_last h firsts rows i past n = (n.same_length, λ k o p eo ep. let w = within rows k p ep in n.done k o p (omega (arith, w, past)) eo ep)

  -- the rows of live sessions are what they were
  pub parted_live : (h : History) (olds news : List (Row S)) → EachParted h olds news → filter (λ r. live h r.conn) news ≡ filter (λ r. live h r.conn) olds
  parted_live h [] [] each = refl
  parted_live h [] (p ∷ news) each = absurd (omega (arith, each.0))
  parted_live h (o ∷ olds) [] each = absurd (omega (arith, each.0))
  parted_live h (o ∷ olds) (p ∷ news) each =
      let one = each.1 0 o p refl refl in
      let l = each.0 in
      at (live h o.conn) refl one (parted_live h olds news (omega (arith, l), λ k x y ex ey. each.1 (suc k) x y ex ey))
    where
      at : (b : Bool) → live h o.conn ≡ b → Parted h o p → filter (λ r. live h r.conn) news ≡ filter (λ r. live h r.conn) olds
          → filter (λ r. live h r.conn) (p ∷ news) ≡ filter (λ r. live h r.conn) (o ∷ olds)
      at true is one rest =
          let same : p ≡ o = one.lives is in
          ap (λ (x : Row S). cond (live h x.conn) (x ∷ filter (λ r. live h r.conn) news) (filter (λ r. live h r.conn) news)) same
          ∙ ap (λ (l : List (Row S)). cond (live h o.conn) (o ∷ l) l) rest
      at false is one rest =
          let dead : live h p.conn ≡ false = ap (live h) one.conn ∙ is in
          ap (λ b. cond b (p ∷ filter (λ r. live h r.conn) news) (filter (λ r. live h r.conn) news)) dead ∙ rest ∙ sym (ap (λ b. cond b (o ∷ filter (λ r. live h r.conn) olds) (filter (λ r. live h r.conn) olds)) is)
