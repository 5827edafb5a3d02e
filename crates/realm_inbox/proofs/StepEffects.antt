-- What a step tells of a view that is known to be the reader's, a seat's or the door's.
use Rattle.std.proofs.Common.{◌≡◌, ℕ, ◌+◌, true, false, true≢false, eqb-true, eq-eqb, List, [], ◌∷◌, ◌++◌, length, sym, refl, ap, ◌∙◌, subst, Ok, Err, MatchResult, MatchOption}
use Rattle.std.specs.declared.option.Option.{Option}
use Rattle.atomic_table.specs.Seated.{TableId}
use Rattle.std.specs.declared.result.Result.{Result}
use Rattle.std.specs.Result.{result_ok, IfOk}
use Rattle.crossbeam_channel.specs.Fifo.{Pushes, Pops, Forks, Learns, Held}
use Rattle.wamp_ids.specs.Numbers.{seat_of}
use Rattle.realm_inbox.specs.declared.letter.Halt.{Halt}
use Rattle.realm_inbox.specs.declared.letter.Letter.{Letter}
use Rattle.realm_inbox.specs.declared.letter.Post.{Post}
use Rattle.realm_inbox.specs.declared.letter.Post.TheVariants.{Act, Stop}
use Rattle.realm_inbox.specs.declared.rule.InboxView.{InboxView}
use Rattle.realm_inbox.specs.declared.rule.InboxView.TheVariants.{Reader, Seat, Door, Both, Shown, Heard, Nobody}
use Rattle.realm_inbox.specs.Seats.{before, said, at_seat, stops_of, IsNext, InOrder, BringsHome, IsHomed}
use Rattle.realm_inbox.specs.Behind.{behind, IsBehind, EachBehind}
use Rattle.realm_inbox.specs.InTurn.{new_door, next_seat, after_cut, after_door, after_post, after_stop, beside, lent_in, Receipt, Keeps}
use Rattle.realm_inbox.specs.Ends.{home_in, posted_in, received_in, shown_in, told_in, number_in, is_seat, is_reader, is_door, reads_any, posts_any}
use Rattle.realm_inbox.specs.Laws.{ReceivedBeginsPosted, StopsReceivedWerePosted, WaitingPostsAreInOrder, WaitingStopsComeBehind}
use Rattle.realm_inbox.proofs.PostLists.{at_seat_append, stops_append, adds_here, told_length}
use Rattle.realm_inbox.proofs.RuleSteps.{posts_seat, stops_door, receives_reader, cuts_seat, cuts_new_door}

pub is_not : {B : Type 0} → false ≡ true → B
is_not e = absurd (true≢false (sym e))

module _ {S : Type 0} where
  reader_is : (n : ℕ) (v : InboxView S) → is_reader n v ≡ true → v ≡ Reader (home_in v) n (received_in v)
  reader_is n (Reader b m r) e = ap (λ k. Reader b k r) (eqb-true m n e)
  reader_is n (Seat b k posted) e = is_not e
  reader_is n (Door b seen told) e = is_not e
  reader_is n (Both b m r c k posted) e = is_not e
  reader_is n (Shown b seen told c k posted) e = is_not e
  reader_is n (Heard b m r c seen told) e = is_not e
  reader_is n Nobody e = is_not e

  pub seat_is : (k : ℕ) (v : InboxView S) → is_seat k v ≡ true → v ≡ Seat (home_in v) k (posted_in v)
  seat_is k (Reader b n r) e = is_not e
  seat_is k (Seat b j posted) e = ap (λ i. Seat b i posted) (eqb-true j k e)
  seat_is k (Door b seen told) e = is_not e
  seat_is k (Both b n r c j posted) e = is_not e
  seat_is k (Shown b seen told c j posted) e = is_not e
  seat_is k (Heard b n r c seen told) e = is_not e
  seat_is k Nobody e = is_not e

  pub door_is : (v : InboxView S) → is_door v ≡ true → v ≡ Door (home_in v) (shown_in v) (told_in v)
  door_is (Reader b n r) e = is_not e
  door_is (Seat b k posted) e = is_not e
  door_is (Door b seen told) e = refl
  door_is (Both b n r c k posted) e = is_not e
  door_is (Shown b seen told c k posted) e = is_not e
  door_is (Heard b n r c seen told) e = is_not e
  door_is Nobody e = is_not e

  pub receives_by : (pass n : ℕ) (v : InboxView S) → is_reader n v ≡ true → Pops Keeps pass v (Receipt v) × Learns Keeps pass v (λ items. Unit {0})
  receives_by pass n v e = (subst (λ (u : InboxView S). Pops Keeps pass u (λ x w. Receipt u x w)) (sym (reader_is n v e)) (receives_reader (home_in v) pass n (received_in v)), λ items views h at. tt)

  pub posts_by : (n pass k : ℕ) (v : InboxView S) (l : Letter S) → is_seat k v ≡ true → seat_of l.conn ≡ k → before l ≡ posted_in v → BringsHome (home_in v) l.act
      → Pushes Keeps n pass v (Act l) (λ w. w ≡ after_post v (Act l)) × Learns Keeps pass v (λ items. Unit {0})
  posts_by n pass k v l e own told home =
      (subst (λ (u : InboxView S). Pushes Keeps n pass u (Act l) (λ w. w ≡ after_post u (Act l))) (sym (seat_is k v e)) (posts_seat (home_in v) n pass k (posted_in v) l own told home), λ items views h at. tt)

  pub stops_by : (n pass : ℕ) (v : InboxView S) (halt : Halt) → is_door v ≡ true → behind halt ≡ shown_in v → Pushes Keeps n pass v (Stop halt) (λ w. w ≡ after_stop v) × Learns Keeps pass v (λ items. Unit {0})
  stops_by n pass v halt e tells =
      (subst (λ (u : InboxView S). Pushes Keeps n pass u (Stop halt) (λ w. w ≡ after_stop u)) (sym (door_is v e)) (stops_door (home_in v) n pass (shown_in v) (told_in v) halt tells), λ items views h at. tt)

  pub cuts_by : (pass n : ℕ) (v : InboxView S) → is_reader n v ≡ true → Forks Keeps pass v (after_cut v) (next_seat v)
  cuts_by pass n v e = subst (λ (u : InboxView S). Forks Keeps pass u (after_cut u) (next_seat u)) (sym (reader_is n v e)) (cuts_seat (home_in v) pass n (received_in v))

  pub cuts_door_by : (home : Option TableId) (pass : ℕ) (v : InboxView S) → is_reader 0 v ≡ true → Forks Keeps pass v (after_door home v) (new_door home)
  cuts_door_by home pass v e = subst (λ (u : InboxView S). Forks Keeps pass u (after_door home u) (new_door home)) (sym (reader_is 0 v e)) (cuts_new_door (home_in v) home pass (received_in v))

  -- of the cut of the door
  pub door_told : (home : Option TableId) (v w d : InboxView S) → is_reader 0 v ≡ true → w ≡ after_door home v → d ≡ new_door home
      → (is_reader 1 w ≡ true) × (received_in w ≡ received_in v) × (home_in w ≡ home) × (is_door d ≡ true) × (shown_in d ≡ []) × (told_in d ≡ []) × (home_in d ≡ home)
  door_told home (Reader b m r) w d e is cut =
      (ap (λ u. is_reader 1 u) is ∙ eq-eqb (m + 1) 1 (ap (λ i. i + 1) (eqb-true m 0 e)), ap (λ u. received_in u) is, ap (λ u. home_in u) is, ap (λ u. is_door u) cut, ap (λ u. shown_in u) cut, ap (λ u. told_in u) cut, ap (λ u. home_in u) cut)
  door_told home (Seat b k posted) w d e is cut = is_not e
  door_told home (Door b seen told) w d e is cut = is_not e
  door_told home (Both b m r c k posted) w d e is cut = is_not e
  door_told home (Shown b seen told c k posted) w d e is cut = is_not e
  door_told home (Heard b m r c seen told) w d e is cut = is_not e
  door_told home Nobody w d e is cut = is_not e

  -- of a post at a seat
  pub post_told : (k : ℕ) (v w : InboxView S) (l : Letter S) → is_seat k v ≡ true → seat_of l.conn ≡ k → w ≡ after_post v (Act l) → (is_seat k w ≡ true) × (posted_in w ≡ posted_in v ++ said l ∷ []) × (home_in w ≡ home_in v)
  post_told k (Reader b n r) w l e own t = is_not e
  post_told k (Seat b j posted) w l e own t = (ap (λ u. is_seat k u) t ∙ e, ap (λ u. posted_in u) t ∙ ap (λ s. posted ++ s) (adds_here j l (own ∙ sym (eqb-true j k e))), ap (λ u. home_in u) t)
  post_told k (Door b seen told) w l e own t = is_not e
  post_told k (Both b n r c j posted) w l e own t = is_not e
  post_told k (Shown b seen told c j posted) w l e own t = is_not e
  post_told k (Heard b n r c seen told) w l e own t = is_not e
  post_told k Nobody w l e own t = is_not e

  -- of a stop
  pub stop_told : (v w : InboxView S) → is_door v ≡ true → w ≡ after_stop v → (is_door w ≡ true) × (shown_in w ≡ shown_in v) × (told_in w ≡ told_in v ++ shown_in v ∷ []) × (home_in w ≡ home_in v)
  stop_told (Reader b n r) w e t = is_not e
  stop_told (Seat b k posted) w e t = is_not e
  stop_told (Door b seen told) w e t = (ap (λ u. is_door u) t, ap (λ u. shown_in u) t, ap (λ u. told_in u) t, ap (λ u. home_in u) t)
  stop_told (Both b n r c k posted) w e t = is_not e
  stop_told (Shown b seen told c k posted) w e t = is_not e
  stop_told (Heard b n r c seen told) w e t = is_not e
  stop_told Nobody w e t = is_not e

  -- of the cut of a seat
  pub cut_told : (n : ℕ) (v w s : InboxView S) → is_reader n v ≡ true → w ≡ after_cut v → s ≡ next_seat v → (is_reader (n + 1) w ≡ true) × (received_in w ≡ received_in v) × (is_seat n s ≡ true) × (posted_in s ≡ []) × (home_in w ≡ home_in v) × (home_in s ≡ home_in v)
  cut_told n (Reader b m r) w s e is cut = (ap (λ u. is_reader (n + 1) u) is ∙ eq-eqb (m + 1) (n + 1) (ap (λ i. i + 1) (eqb-true m n e)), ap (λ u. received_in u) is, ap (λ u. is_seat n u) cut ∙ e, ap (λ u. posted_in u) cut, ap (λ u. home_in u) is, ap (λ u. home_in u) cut)
  cut_told n (Seat b k posted) w s e is cut = is_not e
  cut_told n (Door b seen told) w s e is cut = is_not e
  cut_told n (Both b m r c k posted) w s e is cut = is_not e
  cut_told n (Shown b seen told c k posted) w s e is cut = is_not e
  cut_told n (Heard b m r c seen told) w s e is cut = is_not e
  cut_told n Nobody w s e is cut = is_not e

  -- of a receive
  pub receipt_told : (n : ℕ) (v w : InboxView S) (x : Post S) → is_reader n v ≡ true → Receipt v x w → (is_reader n w ≡ true) × (received_in w ≡ received_in v ++ x ∷ []) × IsNext (received_in v) x × IsHomed (home_in v) x × (home_in w ≡ home_in v) × IsBehind (received_in v) x
  receipt_told n (Reader b m r) w x e t = (ap (λ u. is_reader n u) t.0 ∙ e, ap (λ u. received_in u) t.0, t.1, t.2, ap (λ u. home_in u) t.0, t.3)
  receipt_told n (Seat b k posted) w x e t = is_not e
  receipt_told n (Door b seen told) w x e t = is_not e
  receipt_told n (Both b m r c k posted) w x e t = is_not e
  receipt_told n (Shown b seen told c k posted) w x e t = is_not e
  receipt_told n (Heard b m r c seen told) w x e t = is_not e
  receipt_told n Nobody w x e t = is_not e

  -- of a look, whether a post was found or not
  pub looked : {E : Type 0} (n : ℕ) (v w : InboxView S) (r : Result (Post S) E) → is_reader n v ≡ true → MatchResult r (λ x. Receipt v x w) (λ e. (w ≡ v) × Held {T = Post S} 0 (λ items. Unit {0}))
      → MatchResult r (λ x. received_in w ≡ received_in v ++ x ∷ []) (λ e. received_in w ≡ received_in v)
  looked n v w (Ok x) reads t = (receipt_told n v w x reads t).1
  looked n v w (Err e) reads t = ap (λ (u : InboxView S). received_in u) t.0

  pub looked_homed : {E : Type 0} (n : ℕ) (v w : InboxView S) (r : Result (Post S) E) → is_reader n v ≡ true → MatchResult r (λ x. Receipt v x w) (λ e. (w ≡ v) × Held {T = Post S} 0 (λ items. Unit {0}))
      → IfOk r (λ x. IsHomed (home_in v) x)
  looked_homed n v w (Ok x) reads t = (receipt_told n v w x reads t).3
  looked_homed n v w (Err e) reads t = tt

  pub looked_home : {E : Type 0} (n : ℕ) (v w : InboxView S) (r : Result (Post S) E) → is_reader n v ≡ true → MatchResult r (λ x. Receipt v x w) (λ e. (w ≡ v) × Held {T = Post S} 0 (λ items. Unit {0}))
      → home_in w ≡ home_in v
  looked_home n v w (Ok x) reads t = (receipt_told n v w x reads t).4
  looked_home n v w (Err e) reads t = ap (λ (u : InboxView S). home_in u) t.0

  given : {E : Type 0} (was now : List (Post S)) (r : Result (Post S) E) → MatchResult r (λ x. now ≡ was ++ x ∷ []) (λ e. now ≡ was) → MatchOption (result_ok r) (now ≡ was) (λ p. now ≡ was ++ p ∷ [])
  given was now (Ok x) t = t
  given was now (Err e) t = t

  -- the same, where it isn't told why none was found
  pub given_by : {E : Type 0} (was now : List (Post S)) (r : Result (Post S) E) (o : Option (Post S)) → MatchResult r (λ x. now ≡ was ++ x ∷ []) (λ e. now ≡ was) → o ≡ result_ok r → MatchOption o (now ≡ was) (λ p. now ≡ was ++ p ∷ [])
  given_by was now r o t is = subst (λ k. MatchOption k (now ≡ was) (λ p. now ≡ was ++ p ∷ [])) (sym is) (given was now r t)

module _ {S : Type 0} where
  -- of the two views in one hand
  pub any_reader : (v : InboxView S) → reads_any v ≡ true → (n : ℕ) × (v ≡ Reader (home_in v) n (received_in v))
  any_reader (Reader b n r) e = (n, refl)
  any_reader (Seat b k posted) e = is_not e
  any_reader (Door b seen told) e = is_not e
  any_reader (Both b n r c k posted) e = is_not e
  any_reader (Shown b seen told c k posted) e = is_not e
  any_reader (Heard b n r c seen told) e = is_not e
  any_reader Nobody e = is_not e

  pub any_seat : (v : InboxView S) → posts_any v ≡ true → v ≡ Seat (home_in v) (number_in v) (posted_in v)
  any_seat (Reader b n r) e = is_not e
  any_seat (Seat b k posted) e = refl
  any_seat (Door b seen told) e = is_not e
  any_seat (Both b n r c k posted) e = is_not e
  any_seat (Shown b seen told c k posted) e = is_not e
  any_seat (Heard b n r c seen told) e = is_not e
  any_seat Nobody e = is_not e

  pub reads_some : (n : ℕ) (v : InboxView S) → is_reader n v ≡ true → reads_any v ≡ true
  reads_some n v e = ap (λ u. reads_any u) (reader_is n v e)

  pub posts_some : (k : ℕ) (v : InboxView S) → is_seat k v ≡ true → posts_any v ≡ true
  posts_some k v e = ap (λ u. posts_any u) (seat_is k v e)

  pub number_is : (k : ℕ) (v : InboxView S) → is_seat k v ≡ true → number_in v ≡ k
  number_is k v e = ap (λ u. number_in u) (seat_is k v e)

  -- both in one hand
  pub both_are : (v w m b : InboxView S) (n : ℕ) → v ≡ Reader (home_in v) n (received_in v) → posts_any w ≡ true → m ≡ lent_in w → b ≡ beside v m → b ≡ Both (home_in v) n (received_in v) (home_in w) (number_in w) (posted_in w)
  both_are v w m b n reads posts lent is =
      let seat : m ≡ Seat (home_in w) (number_in w) (posted_in w) = lent ∙ ap (λ u. lent_in u) (any_seat w posts) in
      is ∙ (λ i. beside (reads i) (seat i))

pub begins_posted : (S : Type 0) → ReceivedBeginsPosted S
begins_posted S items views b reader seat n k got posted h at_reader at_seat' =
    (h.each_view seat (Seat b k posted) at_seat').2 ∙ at_seat_append k h.got items ∙ ap (λ t. at_seat k t ++ at_seat k items) (sym (h.each_view reader (Reader b n got) at_reader).2)

pub stops_posted : (S : Type 0) → StopsReceivedWerePosted S
stops_posted S items views b reader door n got seen told h at_reader at_door =
    ap length (h.each_view door (Door b seen told) at_door).2 ∙ told_length (h.got ++ items) ∙ stops_append h.got items ∙ ap (λ t. stops_of t + stops_of items) (sym (h.each_view reader (Reader b n got) at_reader).2)

pub posts_in_order : (S : Type 0) → WaitingPostsAreInOrder S
posts_in_order S items views b reader n got h at_reader = subst (λ g. InOrder g items) (sym (h.each_view reader (Reader b n got) at_reader).2) h.in_order

pub stops_behind : (S : Type 0) → WaitingStopsComeBehind S
stops_behind S items views b reader n got h at_reader = subst (λ g. EachBehind g items) (sym (h.each_view reader (Reader b n got) at_reader).2) h.behind
