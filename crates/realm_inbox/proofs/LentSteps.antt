-- A view is lent to another, and comes back: what each pass knows, step by step.
use Rattle.std.proofs.Common.{◌≡◌, ◌≢◌, ℕ, true, List, [], ◌∷◌, ◌++◌, length, sym, refl, ap, ◌∙◌, subst}
use mathlib.Core.List.{IsPrefix}
use Rattle.crossbeam_channel.specs.Fifo.{Forks, Merges, Learns}
use Rattle.realm_inbox.specs.declared.rule.InboxView.{InboxView}
use Rattle.realm_inbox.specs.declared.rule.InboxView.TheVariants.{Reader, Seat, Door, Both, Shown, Heard, Nobody}
use Rattle.realm_inbox.specs.Seats.{at_seat}
use Rattle.realm_inbox.specs.Behind.{told_by}
use Rattle.realm_inbox.specs.InTurn.{nobody, beside, without_lent, lent_in, Agrees, Keeps}
use Rattle.realm_inbox.specs.Ends.{home_in, posted_in, received_in, shown_in, told_in, number_in, is_door, reads_any, posts_any, lends_any}
use Rattle.realm_inbox.proofs.StepEffects.{is_not, door_is, any_reader, any_seat}
use Rattle.realm_inbox.proofs.RuleSteps.{seat_lent, door_lent, lends, returns, merges_seat, forks_seat, merges_door, forks_door, shows_seat, sees_seat, learns_both, learns_heard}

module _ {S : Type 0} where
  -- w may be lent to v
  pub record Lends (v w : InboxView S) : Type 0 where
    pub goes : (pass : ℕ) → Forks Keeps pass w nobody w
    pub comes : (pass other : ℕ) → Merges Keeps pass v other w (beside v w) nobody
    pub leaves : (pass : ℕ) → Forks Keeps pass (beside v w) (without_lent (beside v w)) w
    pub returns : (pass other : ℕ) → Merges Keeps pass nobody other w w nobody
    pub lent : lent_in w ≡ w
    pub none : without_lent w ≡ nobody
    pub same : lent_in (beside v w) ≡ w

  -- a seat's and the door's to the reader
  pub lends_reader : (v w : InboxView S) → reads_any v ≡ true → lends_any w ≡ true → Lends v w
  lends_reader (Reader b n r) (Reader c m q) e f = is_not f
  lends_reader (Reader b n r) (Seat c k posted) e f = record {
    goes = λ pass. lends pass k (Seat c k posted) (seat_lent c k posted);
    comes = λ pass other. merges_seat b pass n r other c k posted;
    leaves = λ pass. forks_seat b pass n r c k posted;
    returns = λ pass other. returns pass other k (Seat c k posted) (seat_lent c k posted);
    lent = refl;
    none = refl;
    same = refl;
  }
  lends_reader (Reader b n r) (Door c seen told) e f = record {
    goes = λ pass. lends pass 0 (Door c seen told) (door_lent c seen told);
    comes = λ pass other. merges_door b pass n r other c seen told;
    leaves = λ pass. forks_door b pass n r c seen told;
    returns = λ pass other. returns pass other 0 (Door c seen told) (door_lent c seen told);
    lent = refl;
    none = refl;
    same = refl;
  }
  lends_reader (Reader b n r) (Both c m q d k posted) e f = is_not f
  lends_reader (Reader b n r) (Shown c seen told d k posted) e f = is_not f
  lends_reader (Reader b n r) (Heard c m q d seen told) e f = is_not f
  lends_reader (Reader b n r) Nobody e f = is_not f
  lends_reader (Seat b k posted) w e f = is_not e
  lends_reader (Door b seen told) w e f = is_not e
  lends_reader (Both b n r c k posted) w e f = is_not e
  lends_reader (Shown b seen told c k posted) w e f = is_not e
  lends_reader (Heard b n r c seen told) w e f = is_not e
  lends_reader Nobody w e f = is_not e

  -- a seat's to the door
  pub lends_door : (v w : InboxView S) → is_door v ≡ true → posts_any w ≡ true → number_in w ≢ 0 → Lends v w
  lends_door (Door b seen told) (Reader c m q) e f seat = is_not f
  lends_door (Door b seen told) (Seat c k posted) e f seat = record {
    goes = λ pass. lends pass k (Seat c k posted) (seat_lent c k posted);
    comes = λ pass other. shows_seat b pass seen told other c k posted seat;
    leaves = λ pass. sees_seat b pass seen told c k posted seat;
    returns = λ pass other. returns pass other k (Seat c k posted) (seat_lent c k posted);
    lent = refl;
    none = refl;
    same = refl;
  }
  lends_door (Door b seen told) (Door c s t) e f seat = is_not f
  lends_door (Door b seen told) (Both c m q d k posted) e f seat = is_not f
  lends_door (Door b seen told) (Shown c s t d k posted) e f seat = is_not f
  lends_door (Door b seen told) (Heard c m q d s t) e f seat = is_not f
  lends_door (Door b seen told) Nobody e f seat = is_not f
  lends_door (Reader b n r) w e f seat = is_not e
  lends_door (Seat b k posted) w e f seat = is_not e
  lends_door (Both b n r c k posted) w e f seat = is_not e
  lends_door (Shown b seen told c k posted) w e f seat = is_not e
  lends_door (Heard b n r c seen told) w e f seat = is_not e
  lends_door Nobody w e f seat = is_not e

  module _ (v w : InboxView S) (may : Lends v w) where
    pub goes_by : (pass : ℕ) → Forks Keeps pass w (without_lent w) (lent_in w)
    goes_by pass = subst (λ (l : InboxView S). Forks Keeps pass w l (lent_in w)) (sym may.none) (subst (λ (r : InboxView S). Forks Keeps pass w nobody r) (sym may.lent) (may.goes pass))

    module _ (m : InboxView S) (lent : m ≡ lent_in w) where
      is_lent : m ≡ w
      is_lent = lent ∙ may.lent

      pub comes_by : (pass other : ℕ) → Merges Keeps pass v other m (beside v m) nobody
      comes_by pass other = subst (λ (u : InboxView S). Merges Keeps pass v other u (beside v u) nobody) (sym is_lent) (may.comes pass other)

      module _ (b : InboxView S) (is : b ≡ beside v m) where
        pub in_one_hand : b ≡ beside v w
        in_one_hand = is ∙ ap (λ u. beside v u) is_lent

        pub leaves_by : (pass : ℕ) → Forks Keeps pass b (without_lent b) (lent_in b)
        leaves_by pass =
            subst (λ (u : InboxView S). Forks Keeps pass u (without_lent u) (lent_in u)) (sym in_one_hand)
            (subst (λ (r : InboxView S). Forks Keeps pass (beside v w) (without_lent (beside v w)) r) (sym may.same) (may.leaves pass))

        pub stays : (new : InboxView S) → new ≡ without_lent b → new ≡ without_lent (beside v w)
        stays new left = left ∙ ap (λ u. without_lent u) in_one_hand

        module _ (empty back : InboxView S) (left : empty ≡ without_lent w) (gone : back ≡ lent_in b) where
          none_left : empty ≡ nobody
          none_left = left ∙ may.none

          is_back : back ≡ w
          is_back = gone ∙ ap (λ u. lent_in u) in_one_hand ∙ may.same

          pub returns_by : (pass other : ℕ) → Merges Keeps pass empty other back (beside empty back) nobody
          returns_by pass other =
              subst (λ (u : InboxView S). Merges Keeps pass u other back (beside u back) nobody) (sym none_left)
              (subst (λ (u : InboxView S). Merges Keeps pass nobody other u u nobody) (sym is_back) (may.returns pass other))

          pub back_again : (new : InboxView S) → new ≡ beside empty back → new ≡ w
          back_again new come = come ∙ (λ i. beside (none_left i) (is_back i))

  -- what the reader and what is lent to it know together
  learns_lent : (v w : InboxView S) (pass : ℕ) → reads_any v ≡ true → lends_any w ≡ true → Learns Keeps pass (beside v w) (λ items. Agrees (beside v w))
  learns_lent (Reader b n r) (Reader c m q) pass e f = is_not f
  learns_lent (Reader b n r) (Seat c k posted) pass e f = learns_both b pass n r c k posted
  learns_lent (Reader b n r) (Door c seen told) pass e f = learns_heard b pass n r c seen told
  learns_lent (Reader b n r) (Both c m q d k posted) pass e f = is_not f
  learns_lent (Reader b n r) (Shown c seen told d k posted) pass e f = is_not f
  learns_lent (Reader b n r) (Heard c m q d seen told) pass e f = is_not f
  learns_lent (Reader b n r) Nobody pass e f = is_not f
  learns_lent (Seat b k posted) w pass e f = is_not e
  learns_lent (Door b seen told) w pass e f = is_not e
  learns_lent (Both b n r c k posted) w pass e f = is_not e
  learns_lent (Shown b seen told c k posted) w pass e f = is_not e
  learns_lent (Heard b n r c seen told) w pass e f = is_not e
  learns_lent Nobody w pass e f = is_not e

  pub learns_by : (v w b : InboxView S) (pass : ℕ) → reads_any v ≡ true → lends_any w ≡ true → b ≡ beside v w → Learns Keeps pass b (λ items. Agrees b)
  learns_by v w b pass e f is = subst (λ (u : InboxView S). Learns Keeps pass u (λ items. Agrees u)) (sym is) (learns_lent v w pass e f)

  -- the reader is left as it was
  pub reader_left : (v w : InboxView S) → reads_any v ≡ true → lends_any w ≡ true → without_lent (beside v w) ≡ v
  reader_left (Reader b n r) (Reader c m q) e f = is_not f
  reader_left (Reader b n r) (Seat c k posted) e f = refl
  reader_left (Reader b n r) (Door c seen told) e f = refl
  reader_left (Reader b n r) (Both c m q d k posted) e f = is_not f
  reader_left (Reader b n r) (Shown c seen told d k posted) e f = is_not f
  reader_left (Reader b n r) (Heard c m q d seen told) e f = is_not f
  reader_left (Reader b n r) Nobody e f = is_not f
  reader_left (Seat b k posted) w e f = is_not e
  reader_left (Door b seen told) w e f = is_not e
  reader_left (Both b n r c k posted) w e f = is_not e
  reader_left (Shown b seen told c k posted) w e f = is_not e
  reader_left (Heard b n r c seen told) w e f = is_not e
  reader_left Nobody w e f = is_not e

  -- the door has seen what was posted at the seat
  pub door_shown : (v w new : InboxView S) → is_door v ≡ true → posts_any w ≡ true → new ≡ without_lent (beside v w)
      → (shown_in new ≡ shown_in v ++ (number_in w, length (posted_in w)) ∷ []) × (is_door new ≡ true) × (told_in new ≡ told_in v) × (home_in new ≡ home_in v)
  door_shown v w new e f is =
      let at : new ≡ Door (home_in v) (shown_in v ++ (number_in w, length (posted_in w)) ∷ []) (told_in v) = is ∙ (λ i. without_lent (beside (door_is v e i) (any_seat w f i))) in
      (ap (λ u. shown_in u) at, ap (λ u. is_door u) at, ap (λ u. told_in u) at, ap (λ u. home_in u) at)

  pub posts_lend : (w : InboxView S) → posts_any w ≡ true → lends_any w ≡ true
  posts_lend w e = ap (λ u. lends_any u) (any_seat w e)

  pub door_lends : (w : InboxView S) → is_door w ≡ true → lends_any w ≡ true
  door_lends w e = ap (λ u. lends_any u) (door_is w e)

  -- what was learned
  pub seat_compared : (v w : InboxView S) → reads_any v ≡ true → posts_any w ≡ true → Agrees (beside v w) → IsPrefix (at_seat (number_in w) (received_in v)) (posted_in w)
  seat_compared v w e f agree = let r = any_reader v e in subst (λ u. Agrees u) (λ i. beside (r.1 i) (any_seat w f i)) agree

  pub door_compared : (v w : InboxView S) → reads_any v ≡ true → is_door w ≡ true → Agrees (beside v w) → IsPrefix (told_by (received_in v)) (told_in w)
  door_compared v w e f agree = let r = any_reader v e in subst (λ u. Agrees u) (λ i. beside (r.1 i) (door_is w f i)) agree
