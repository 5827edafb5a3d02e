-- The posters of connections, while these come and go.
use Rattle.std.proofs.Common.{◌≡◌, ◌≢◌, ◌≤◌, ◌<◌, ◌+◌, ◌-◌, ℕ, List, [], ◌∷◌, ◌++◌, Option, None, Some, MatchOption, length, length-append, map, option_map, replicate, set, slice_get, slice_index_or, refl, sym, ap, ◌∙◌, subst, arith, length-set}
use mathlib.Core.Logic.{◌⊎◌, inl, inr}
use Rattle.std.proofs.Math.ListN.{get_or-append}
use Rattle.std.proofs.Math.Seq.{get_or-append_seam, map-set_same}
use Rattle.std.proofs.lemmas.List.{length-map, map-set}
use Rattle.std.proofs.lemmas.Option.{none-some, same_Some, slice_get_within}
use Rattle.std.specs.Option.{option_flatten}
use Rattle.realm_inbox.specs.EndViews.{AreNewSeats, IsNewSeat, inbox_of_poster, posted, poster_conn, seat_number}
use Rattle.realm_inbox.specs.Ends.{Place}
use Rattle.realm_inbox.specs.declared.act.Act.{Act}
use Rattle.realm_inbox.specs.declared.ends.Poster.{Poster}
use Rattle.realm_inbox.specs.declared.ends.Seat.{Seat}
use Rattle.threaded_server.proofs.Places.{below, changed_there, few_or_more, found_there, get_of_map, get_other, get_set, get_set_cases, map_get, only_there, same_or_other}
use Rattle.threaded_server.proofs.RealmSteps.{Longer, at_longer}
use Rattle.threaded_server.specs.Posters.{AllGain, AreAt, AreOfSeat, Gains, GivesUp, IsOfInbox, Puts, Relabels, RelabelsAt, Stand, poster_at, poster_in, seen_at}
use Rattle.threaded_server.specs.Posts.{Say}
use Rattle.threaded_server.specs.Realms.{Shown, places_of}
use Rattle.wamp_ids.specs.Numbers.{seat_of}

module _ {S : Type 0} where
  -- the realms go on
  pub stand_on : (old new : List (Shown S)) (slots : List (Option (List (Option (Poster S))))) → Longer old new → Stand (places_of old) slots → Stand (places_of new) slots
  stand_on old new slots longer h k posters e = let s = h k posters e in (at_longer old new posters longer s.0, s.1)

  -- posters are put at a seat
  pub stand_put : (places : List (Place S)) (slots : List (Option (List (Option (Poster S))))) (k : ℕ) (posters : List (Option (Poster S))) → AreAt places posters → AreOfSeat (k + 1) posters → Stand places slots → Stand places (set slots k (Some posters))
  stand_put places slots k posters at own h j others e = by_place (get_set_cases slots k j (Some posters) (Some others) e)
    where
      by_place : ((k ≡ j) × (Some posters ≡ Some others)) ⊎ ((k ≢ j) × (slice_get slots j ≡ Some (Some others))) → AreAt places others × AreOfSeat (j + 1) others
      by_place (inl w) =
          let same = same_Some posters others w.1 in
          (subst (λ l. AreAt places l) same at, subst (λ l. AreOfSeat (j + 1) l) same (subst (λ (n : ℕ). AreOfSeat (n + 1) posters) w.0 own))
      by_place (inr f) = h j others f.1

  -- a seat's are taken
  pub stand_taken : (places : List (Place S)) (slots : List (Option (List (Option (Poster S))))) (k : ℕ) → Stand places slots → Stand places (set slots k None)
  stand_taken places slots k h j others e = by_place (get_set_cases slots k j None (Some others) e)
    where
      by_place : ((k ≡ j) × (None ≡ Some others)) ⊎ ((k ≢ j) × (slice_get slots j ≡ Some (Some others))) → AreAt places others × AreOfSeat (j + 1) others
      by_place (inl w) = absurd (none-some others w.1)
      by_place (inr f) = h j others f.1

  -- what a place gave
  pub took_at : {V : Type 0} (items : V → List (Option (Poster S))) (slots : List (Option V)) (place : ℕ) (o left : Option V) → slice_get slots place ≡ Some o → left ≡ None
      → MatchOption o (option_flatten (slice_get (map (option_map items) slots) place) ≡ None)
      (λ v. (slice_get (map (option_map items) slots) place ≡ Some (Some (items v))) × (map (option_map items) (set slots place left) ≡ set (map (option_map items) slots) place None))
  took_at items slots place None left at e = ap option_flatten (map_get (option_map items) slots place None at)
  took_at items slots place (Some v) left at e = (map_get (option_map items) slots place (Some v) at, ap (λ x. map (option_map items) (set slots place x)) e ∙ map-set (option_map items) slots place None)

  -- or there is no such place
  pub took_nowhere : {V : Type 0} (items : V → List (Option (Poster S))) (slots : List (Option V)) (place : ℕ) (o : Option V) → o ≡ None → slice_get (map (option_map items) slots) place ≡ None
      → MatchOption o (option_flatten (slice_get (map (option_map items) slots) place) ≡ None)
      (λ v. (slice_get (map (option_map items) slots) place ≡ Some (Some (items v))) × (map (option_map items) slots ≡ set (map (option_map items) slots) place None))
  took_nowhere items slots place None e nowhere = ap option_flatten nowhere
  took_nowhere items slots place (Some v) e nowhere = absurd (none-some v (sym e))

  -- nothing stands anywhere yet
  pub none_stand : (whole : ℕ) (slots : List (Option (List (Option (Poster S))))) (places : List (Place S)) → slots ≡ replicate 256 (Some (replicate whole None)) → Stand places slots
  none_stand whole slots places e k posters at = (λ i p f. absurd (nobody i p f), λ i p f. absurd (nobody i p f))
    where
      here : slice_get (replicate 256 (Some (replicate whole None))) k ≡ Some (Some posters)
      here = ap (λ l. slice_get l k) (sym e) ∙ at

      plain : posters ≡ replicate whole None
      plain = same_Some posters (replicate whole None) (sym (only_there 256 k (Some (replicate whole None)) (Some posters) here))

      nobody : (i : ℕ) (p : Poster S) → slice_get posters i ≡ Some (Some p) → ⊥
      nobody i p f = none-some p (only_there whole i None (Some p) (ap (λ l. slice_get l i) (sym plain) ∙ f))

  -- what stood somewhere before its connection changed
  stood : (o : Option (Poster S)) (p : Poster S) → seen_at o ≡ seen_at (Some p) → (q : Poster S) × (o ≡ Some q) × (inbox_of_poster q ≡ inbox_of_poster p) × (posted q ≡ posted p)
  stood None p e = absurd (none-some (inbox_of_poster p, posted p) e)
  stood (Some q) p e = let same = same_Some (inbox_of_poster q, posted q) (inbox_of_poster p, posted p) e in (q, refl, ap (λ x. x.0) same, ap (λ x. x.1) same)

  pub was_there : (conn : ℕ) (were now : List (Option (Poster S))) (i : ℕ) (p : Poster S) → Relabels conn were now → slice_get now i ≡ Some (Some p) → (q : Poster S) × (slice_get were i ≡ Some (Some q)) × (inbox_of_poster q ≡ inbox_of_poster p) × (posted q ≡ posted p)
  was_there conn were now i p r e =
      let o = get_of_map seen_at were i (seen_at (Some p)) (ap (λ l. slice_get l i) (sym r.seen) ∙ map_get seen_at now i (Some p) e) in
      let q = stood o.0 p o.2 in
      (q.0, o.1 ∙ ap Some q.1, q.2, q.3)

  pub relabelled_at : (places : List (Place S)) (conn : ℕ) (were now : List (Option (Poster S))) → Relabels conn were now → AreAt places were → AreAt places now
  relabelled_at places conn were now r at i p e = let q = was_there conn were now i p r e in at i q.0 q.1 ∙ ap Some q.2

  pub relabelled_own : (conn : ℕ) (were now : List (Option (Poster S))) → Relabels conn were now → AreOfSeat (seat_of conn) now
  relabelled_own conn were now r i p e = ap seat_of (r.own i p e)

  -- the first so many are a connection's
  pub record Relabelling (conn place : ℕ) (before now : List (Option (Poster S))) : Type 0 where
    pub seen : map seen_at now ≡ map seen_at before
    pub own : (i : ℕ) (p : Poster S) → i < place → slice_get now i ≡ Some (Some p) → poster_conn p ≡ conn
    pub seat : AreOfSeat (seat_of conn) now
    pub long : length now ≡ length before

  pub relabelling_none : (conn : ℕ) (before : List (Option (Poster S))) → AreOfSeat (seat_of conn) before → Relabelling conn 0 before before
  relabelling_none conn before seat = record { seen = refl; own = λ i p less e. absurd (omega (arith, less)); seat = seat; long = refl }

  pub relabelling_on : (conn place : ℕ) (before now next : List (Option (Poster S))) → Relabelling conn place before now → RelabelsAt conn place now next → Relabelling conn (place + 1) before next
  relabelling_on conn place before now next r h = record {
    seen = ap (map seen_at) h.put ∙ map-set_same seen_at now place h.slot h.slot h.seen ∙ r.seen;
    own = λ i p less e. by_place i p less (get_set_cases now place i h.slot (Some p) (ap (λ l. slice_get l i) (sym h.put) ∙ e));
    seat = λ i p e. of_seat i p (get_set_cases now place i h.slot (Some p) (ap (λ l. slice_get l i) (sym h.put) ∙ e));
    long = ap length h.put ∙ length-set now place h.slot ∙ r.long;
  }
    where
      by_place : (i : ℕ) (p : Poster S) → i < place + 1 → ((place ≡ i) × (h.slot ≡ Some p)) ⊎ ((place ≢ i) × (slice_get now i ≡ Some (Some p))) → poster_conn p ≡ conn
      by_place i p less (inl w) = h.own p w.1
      by_place i p less (inr w) = r.own i p (below i place less w.0) w.1

      of_seat : (i : ℕ) (p : Poster S) → ((place ≡ i) × (h.slot ≡ Some p)) ⊎ ((place ≢ i) × (slice_get now i ≡ Some (Some p))) → seat_of (poster_conn p) ≡ seat_of conn
      of_seat i p (inl w) = ap seat_of (h.own p w.1)
      of_seat i p (inr w) = r.seat i p w.1

  pub relabelled : (conn place : ℕ) (before now : List (Option (Poster S))) → place ≡ length before → Relabelling conn place before now → Relabels conn before now
  relabelled conn place before now all r = record {
    seen = r.seen;
    own = λ i p e. r.own i p (subst (λ (n : ℕ). i < n) (r.long ∙ sym all) (slice_get_within now i (Some p) e)) e;
  }

  -- a connection's posters say what they said
  pub said_relabelled : (conn whole count : ℕ) (said : ℕ → List (ℕ × Act S)) (were now : List (Option (Poster S))) → Relabels conn were now → Say posted whole count said were → Say posted whole count said now
  said_relabelled conn whole count said were now r h = record {
    long = sym (length-map now seen_at) ∙ ap length r.seen ∙ length-map were seen_at ∙ h.long;
    each = λ i less.
        let p = h.each i less in
        let o = get_of_map seen_at now i (seen_at (Some p.0)) (ap (λ l. slice_get l i) r.seen ∙ map_get seen_at were i (Some p.0) p.1) in
        let q = stood o.0 p.0 o.2 in
        (q.0, o.1 ∙ ap Some q.1, q.3 ∙ p.2);
  }

  -- a realm more: each free seat has its poster
  pub gains_stand : (places : List (Place S)) (place : Place S) (realm : ℕ) (before now : List (Option (List (Option (Poster S))))) → slice_get places realm ≡ Some place → AllGain place realm before now → Stand places before → Stand places now
  gains_stand places place realm before now here all h k posters at = by_seat (few_or_more k)
    where
      with_one : (g : Gains place realm k before now) → (were : List (Option (Poster S))) × (slice_get before k ≡ Some (Some were)) × (set were realm (Some g.poster) ≡ posters)
      with_one g = gained (slice_get before k) refl (sym g.slot ∙ at)
        where
          gained : (o : Option (Option (List (Option (Poster S))))) → slice_get before k ≡ o → option_map (option_map (λ l. set l realm (Some g.poster))) o ≡ Some (Some posters)
              → (were : List (Option (Poster S))) × (slice_get before k ≡ Some (Some were)) × (set were realm (Some g.poster) ≡ posters)
          gained None e f = absurd (none-some (Some posters) f)
          gained (Some None) e f = absurd (none-some posters (same_Some None (Some posters) f))
          gained (Some (Some were)) e f = (were, e, same_Some (set were realm (Some g.poster)) posters (same_Some (Some (set were realm (Some g.poster))) (Some posters) f))

      of_gain : (g : Gains place realm k before now) → AreAt places posters × AreOfSeat (k + 1) posters
      of_gain g =
          let w = with_one g in
          let s = h k w.0 w.1 in (
            λ i p e. at_place i p (get_set_cases w.0 realm i (Some g.poster) (Some p) (ap (λ l. slice_get l i) w.2 ∙ e)),
            λ i p e. of_seat i p (get_set_cases w.0 realm i (Some g.poster) (Some p) (ap (λ l. slice_get l i) w.2 ∙ e)),
          )
        where
          at_place : (i : ℕ) (p : Poster S) → ((realm ≡ i) × (Some g.poster ≡ Some p)) ⊎ ((realm ≢ i) × (slice_get (with_one g).0 i ≡ Some (Some p))) → slice_get places i ≡ Some (inbox_of_poster p)
          at_place i p (inl w) = ap (slice_get places) (sym w.0) ∙ here ∙ ap Some (sym g.inbox ∙ ap inbox_of_poster (same_Some g.poster p w.1))
          at_place i p (inr w) = (h k (with_one g).0 (with_one g).1).0 i p w.1

          of_seat : (i : ℕ) (p : Poster S) → ((realm ≡ i) × (Some g.poster ≡ Some p)) ⊎ ((realm ≢ i) × (slice_get (with_one g).0 i ≡ Some (Some p))) → seat_of (poster_conn p) ≡ k + 1
          of_seat i p (inl w) = ap (λ x. seat_of (poster_conn x)) (sym (same_Some g.poster p w.1)) ∙ g.number
          of_seat i p (inr w) = (h k (with_one g).0 (with_one g).1).1 i p w.1

      by_seat : (k < 256) ⊎ (256 ≤ k) → AreAt places posters × AreOfSeat (k + 1) posters
      by_seat (inl few) = of_gain (all.seats k few)
      by_seat (inr more) = h k posters (sym (all.others k more) ∙ at)

  -- the seats that aren't left have their poster of the realm
  pub record Gaining (place : Place S) (realm : ℕ) (before now : List (Option (List (Option (Poster S))))) (left : List (Seat S)) : Type 0 where
    pub are : AreNewSeats place left
    pub few : length left ≤ 256
    pub done : (k : ℕ) → length left ≤ k → k < 256 → Gains place realm k before now
    pub ahead : (k : ℕ) → (k < length left) ⊎ (256 ≤ k) → slice_get now k ≡ slice_get before k

  pub gaining_none : (place : Place S) (realm : ℕ) (before : List (Option (List (Option (Poster S))))) (seats : List (Seat S)) → length seats ≡ 256 → AreNewSeats place seats → Gaining place realm before before seats
  gaining_none place realm before seats all are = record { are = are; few = omega (arith, all); done = λ k more less. absurd (omega (arith, all, more, less)); ahead = λ k h. refl }

  pub gaining_on : (place : Place S) (realm : ℕ) (before now next : List (Option (List (Option (Poster S))))) (seats left : List (Seat S)) (at : Seat S) → seats ≡ left ++ at ∷ [] → Puts realm at now next → Gaining place realm before now seats → Gaining place realm before next left
  gaining_on place realm before now next seats left at e put g = record {
    are = λ k d less. subst (λ (s : Seat S). IsNewSeat place (k + 1) s) (ap (λ l. slice_index_or l k d) e ∙ get_or-append left (at ∷ []) d k less) (g.are k d (omega (arith, long, less)));
    few = omega (arith, long, g.few);
    done = λ k more less. by_place k more less (same_or_other k (length left));
    ahead = λ k h. moved k h;
  }
    where
      long : length seats ≡ length left + 1
      long = ap length e ∙ length-append left (at ∷ [])

      new : IsNewSeat place (length left + 1) at
      new = subst (λ (s : Seat S). IsNewSeat place (length left + 1) s) (ap (λ l. slice_index_or l (length left) at) e ∙ get_or-append_seam left at [] at) (g.are (length left) at (omega (arith, long)))

      where_put : seat_number at - 1 ≡ length left
      where_put = omega (arith, new.0)

      one : List (Option (Poster S)) → List (Option (Poster S))
      one posters = set posters realm (Some put.poster)

      put_there : next ≡ set now (length left) (option_map one (option_flatten (slice_get now (length left))))
      put_there = put.put ∙ ap (λ n. set now n (option_map one (option_flatten (slice_get now n)))) where_put

      here : Gains place realm (length left) before next
      here = record {
        poster = put.poster;
        inbox = put.inbox ∙ new.2;
        number = put.number ∙ new.0;
        posted = put.posted ∙ new.1;
        slot = ap (λ l. slice_get l (length left)) put_there ∙ changed_there one now (length left) ∙ ap (option_map (option_map one)) (g.ahead (length left) (inl (omega (arith, long))));
      }

      other : (k : ℕ) → k ≢ length left → slice_get next k ≡ slice_get now k
      other k apart = ap (λ l. slice_get l k) put_there ∙ get_other now (length left) k (option_map one (option_flatten (slice_get now (length left)))) apart

      by_place : (k : ℕ) → length left ≤ k → k < 256 → (k ≡ length left) ⊎ (k ≢ length left) → Gains place realm k before next
      by_place k more less (inl same) = subst (λ (n : ℕ). Gains place realm n before next) (sym same) here
      by_place k more less (inr apart) =
          let was = g.done k (omega (arith, long, more, apart)) less in
          record { poster = was.poster; inbox = was.inbox; number = was.number; posted = was.posted; slot = other k apart ∙ was.slot }

      moved : (k : ℕ) → (k < length left) ⊎ (256 ≤ k) → slice_get next k ≡ slice_get before k
      moved k (inl less) = other k (λ same. omega (arith, same, less)) ∙ g.ahead k (inl (omega (arith, long, less)))
      moved k (inr more) = other k (λ same. omega (arith, same, more, long, g.few)) ∙ g.ahead k (inr more)

  pub gaining_all : (place : Place S) (realm : ℕ) (before now : List (Option (List (Option (Poster S))))) (left : List (Seat S)) → length left ≡ 0 → Gaining place realm before now left → AllGain place realm before now
  gaining_all place realm before now left none g = record { seats = λ k less. g.done k (omega (arith, none)) less; others = λ k more. g.ahead k (inr more) }

  -- a poster that is found stands in its place
  pub record Found (slots : List (Option (List (Option (Poster S))))) (k realm : ℕ) (p : Poster S) : Type 0 where
    pub posters : List (Option (Poster S))
    pub seat : slice_get slots k ≡ Some (Some posters)
    pub at : slice_get posters realm ≡ Some (Some p)

  pub poster_found : (slots : List (Option (List (Option (Poster S))))) (k realm : ℕ) (p : Poster S) → poster_at slots k realm ≡ Some p → Found slots k realm p
  poster_found slots k realm p e = by_slot (slice_get slots k) refl e
    where
      by_slot : (o : Option (Option (List (Option (Poster S))))) → slice_get slots k ≡ o → poster_in (option_flatten o) realm ≡ Some p → Found slots k realm p
      by_slot None f h = absurd (none-some p h)
      by_slot (Some None) f h = absurd (none-some p h)
      by_slot (Some (Some posters)) f h = record { posters = posters; seat = f; at = found_there (slice_get posters realm) p h }

  pub found_poster : (slots : List (Option (List (Option (Poster S))))) (k realm : ℕ) (posters : List (Option (Poster S))) (p : Poster S) → slice_get slots k ≡ Some (Some posters) → slice_get posters realm ≡ Some (Some p) → poster_at slots k realm ≡ Some p
  found_poster slots k realm posters p e f = ap (λ o. poster_in (option_flatten o) realm) e ∙ ap option_flatten f

  -- and so it is of the inbox of its realm
  pub found_stands : (places : List (Place S)) (slots : List (Option (List (Option (Poster S))))) (k realm : ℕ) (place : Place S) (p : Poster S) → slice_get places realm ≡ Some place → Stand places slots → poster_at slots k realm ≡ Some p → IsOfInbox place (k + 1) p
  found_stands places slots k realm place p here h e =
      let f = poster_found slots k realm p e in
      let s = h k f.posters f.seat in
      record { inbox = same_Some place (inbox_of_poster p) (sym here ∙ s.0 realm p f.at); seat = s.1 realm p f.at }

  -- a poster is given up
  pub gives_none : (slots : List (Option (List (Option (Poster S))))) (k realm : ℕ) → poster_at slots k realm ≡ None → GivesUp slots k realm None slots
  gives_none slots k realm e = record { there = e; others = λ l i h. refl }

  pub gives_up : (slots now : List (Option (List (Option (Poster S))))) (k realm : ℕ) (posters left : List (Option (Poster S))) (given : Option (Poster S)) → slice_get slots k ≡ Some (Some posters) → option_flatten (slice_get posters realm) ≡ given
      → ((i : ℕ) → i ≢ realm → slice_get left i ≡ slice_get posters i) → now ≡ set slots k (Some left) → GivesUp slots k realm given now
  gives_up slots now k realm posters left given e f same put = record {
    there = ap (λ o. poster_in (option_flatten o) realm) e ∙ f;
    others = λ l i h. by_place l i h (same_or_other l k);
  }
    where
      by_place : (l i : ℕ) → (l ≢ k) ⊎ (i ≢ realm) → (l ≡ k) ⊎ (l ≢ k) → poster_at now l i ≡ poster_at slots l i
      by_place l i h (inr apart) = ap (λ o. poster_in (option_flatten o) i) (ap (λ s. slice_get s l) put ∙ get_other slots k l (Some left) apart)
      by_place l i (inl apart) (inl here) = absurd (apart here)
      by_place l i (inr other) (inl here) =
          ap (λ n. poster_at now n i) here ∙ ap (λ o. poster_in (option_flatten o) i) (ap (λ s. slice_get s k) put ∙ get_set slots k (Some posters) (Some left) e) ∙ ap option_flatten (same i other)
          ∙ sym (ap (λ o. poster_in (option_flatten o) i) e) ∙ ap (λ n. poster_at slots n i) (sym here)
