-- What is kept of the realms, while streams come and go.
use Rattle.std.proofs.Common.{◌≡◌, ◌≢◌, ℕ, Bool, List, [], ◌∷◌, ◌++◌, Option, None, Some, All, Contains, IfSome, length, length-set, option_map, set, slice_get, refl, sym, ap, ◌∙◌, subst}
use mathlib.Core.Logic.{◌⊎◌, inl, inr}
use Rattle.std.proofs.lemmas.List.Elements.{All-push, All-weaker, Contains-append_left, Contains-push}
use Rattle.std.proofs.lemmas.Option.{same_Some}
use Rattle.std.specs.Arc.{arc_value}
use Rattle.std.specs.declared.snapshot.Snapshot.{Snapshot}
use Rattle.rawsocket.specs.Devices.{Reading}
use Rattle.connection.specs.declared.reader.ReadEnd.{ReadEnd}
use Rattle.outbox_queue.specs.Ends.{IsOf, Owes}
use Rattle.outbox_queue.specs.Tied.{Kept}
use Rattle.realm.specs.History.{History}
use Rattle.realm_inbox.specs.EndViews.{inbox_of_poster, poster_conn}
use Rattle.realm_inbox.specs.Ends.{Place}
use Rattle.realm_inbox.specs.declared.ends.Poster.{Poster}
use Rattle.realm_inbox.specs.declared.joining.Joining.{Joining}
use Rattle.threaded_server.proofs.Places.{get_before_set, get_more, get_of_map, get_set, get_set_cases, map_get}
use Rattle.threaded_server.specs.Posters.{AreAt, AreOf, AreOfSeat}
use Rattle.broker_threads.specs.Courses.{seen_of}
use Rattle.threaded_server.specs.Realms.{IsAtHome, Keeps, Shown, TakesIn, inbox_in, places_of, with_seen}
use Rattle.broker_threads.specs.Streams.{GoesBy, IsServed, Offer, Reads, Sight, Stream, offer_of}
use Rattle.broker_threads.proofs.Lemmas.{went_on}
use Rattle.broker_threads.specs.Talks.{Passage, ReadsOn, StandsStill, passage, start_of}
use Rattle.connection.specs.Reader.{Start}
use Rattle.threaded_server.specs.Ties.{CourseKept, IsKept, IsKeptIn, OverKept}
use Rattle.broker_threads.specs.Writes.{owed_kept}
use Rattle.broker_threads.specs.declared.closed.Closed.{Closed}
use Rattle.broker_threads.specs.declared.course.Course.{Course}
use Rattle.broker_threads.specs.declared.course.Course.TheVariants.{Untouched, NotOpened, OpenedAlone, Served}
use Rattle.threaded_server.specs.declared.over.Over.{Over}
use Rattle.threaded_server.specs.declared.over.Over.TheVariants as over
use Rattle.broker_threads.specs.declared.reader_thread.Ended.{Ended}
use Rattle.broker_threads.specs.declared.reader_thread.Reader.{Reader}
use Rattle.broker_threads.specs.declared.writer_thread.SeenHistory.{SeenHistory}
use Rattle.broker_threads.specs.declared.writer_thread.Written.{Written}
use Rattle.wamp_ids.specs.Numbers.{seat_of}

module _ {S : Type 0} where
  -- the same inbox, and what was kept is kept
  pub record Grows (old new : Shown S) : Type 0 where
    pub place : inbox_in new ≡ inbox_in old
    pub seen : (kept : Kept History) → Contains old.seen kept → Contains new.seen kept

  still : (r : Shown S) → Grows r r
  still r = record { place = refl; seen = λ kept h. h }

  -- each realm is at its place, and keeps what it kept
  abbrev pub Longer : List (Shown S) → List (Shown S) → Type 0
  Longer old new = (i : ℕ) (r : Shown S) → slice_get old i ≡ Some r → (s : Shown S) × (slice_get new i ≡ Some s) × Grows r s

  -- as many as before
  pub takes_long : (old : List (Shown S)) (o : Option SeenHistory) (new : List (Shown S)) → TakesIn old o new → length new ≡ length old
  takes_long old None new e = ap length e
  takes_long old (Some seen) new k = ap length k.kept ∙ length-set old seen.realm (with_seen k.realm seen.history)

  pub same_longer : (old new : List (Shown S)) → new ≡ old → Longer old new
  same_longer old new e i r at = (r, ap (λ l. slice_get l i) e ∙ at, still r)

  pub more_longer : (old new more : List (Shown S)) → new ≡ old ++ more → Longer old new
  more_longer old new more e i r at = (r, ap (λ l. slice_get l i) e ∙ get_more old more i r at, still r)

  pub keeps_longer : (old new : List (Shown S)) (seen : SeenHistory) → Keeps old seen new → Longer old new
  keeps_longer old new seen k i r at = by_place (get_before_set old seen.realm i k.realm (with_seen k.realm seen.history) r k.at at)
    where
      by_place : ((k.realm ≡ r) × (slice_get (set old seen.realm (with_seen k.realm seen.history)) i ≡ Some (with_seen k.realm seen.history))) ⊎ (slice_get (set old seen.realm (with_seen k.realm seen.history)) i ≡ Some r)
          → (s : Shown S) × (slice_get new i ≡ Some s) × Grows r s
      by_place (inl h) = (
        with_seen k.realm seen.history,
        ap (λ l. slice_get l i) k.kept ∙ h.1,
        record {
          place = ap inbox_in h.0;
          seen = λ kept c. Contains-append_left k.realm.seen (seen.history ∷ []) kept (subst (λ (x : Shown S). Contains x.seen kept) (sym h.0) c);
        },
      )
      by_place (inr h) = (r, ap (λ l. slice_get l i) k.kept ∙ h, still r)

  pub takes_longer : (old new : List (Shown S)) (seen : Option SeenHistory) → TakesIn old seen new → Longer old new
  takes_longer old new None e = same_longer old new e
  takes_longer old new (Some seen) k = keeps_longer old new seen k

  -- posters stand where they stood
  pub at_longer : (old new : List (Shown S)) (posters : List (Option (Poster S))) → Longer old new → AreAt (places_of old) posters → AreAt (places_of new) posters
  at_longer old new posters longer at i p e =
      let r = get_of_map inbox_in old i (inbox_of_poster p) (at i p e) in
      let s = longer i r.0 r.1 in
      map_get inbox_in new i s.0 s.1 ∙ ap Some (s.2.place ∙ r.2)

kept_in : (old new : List (Kept History)) (o : Option (Kept History)) → ((kept : Kept History) → Contains old kept → Contains new kept) → IsKeptIn old o → IsKeptIn new o
kept_in old new None f h = tt
kept_in old new (Some kept) f h = f kept h

module _ {O S : Type 0} where
  pub kept_longer : (old new : List (Shown S)) (conn : ℕ) (posters : List (Option (Poster S))) (written : Written O) → Longer old new → IsKept old conn posters written → IsKept new conn posters written
  kept_longer old new conn posters written longer k =
      let s = longer written.realm k.realm k.at in
      record {
        realm = s.0;
        at = s.1;
        poster = k.poster;
        posts = k.posts;
        inbox = k.inbox ∙ sym s.2.place;
        own = k.own;
        owes = k.owes;
        newest_is = k.newest_is;
        whole = k.whole;
        full = k.full;
        lost = k.lost;
        kept = kept_in k.realm.seen s.0.seen written.seen s.2.seen k.kept;
      }

  pub course_longer : (old new : List (Shown S)) (conn : ℕ) (posters : List (Option (Poster S))) (course : Course O) → Longer old new → CourseKept old conn posters course → CourseKept new conn posters course
  course_longer old new conn posters (Untouched sink) longer h = tt
  course_longer old new conn posters (NotOpened sink fault) longer h = tt
  course_longer old new conn posters (OpenedAlone sink) longer h = tt
  course_longer old new conn posters (Served end written) longer h = kept_longer old new conn posters written longer h

module _ {I O S : Type 0} where
  over_longer : (old new : List (Shown S)) (o : Over I O S) → Longer old new → OverKept old o → OverKept new o
  over_longer old new (over.Seated reader ended) longer h = course_longer old new reader.value.conn reader.value.posters.items ended.value.course longer h
  over_longer old new (over.TurnedAway halves source sink) longer h = tt
  over_longer old new (over.Untouched halves) longer h = tt

  pub overs_longer : (old new : List (Shown S)) (overs : List (Over I O S)) → Longer old new → All (λ o. OverKept old o) overs → All (λ o. OverKept new o) overs
  overs_longer old new overs longer h = All-weaker (λ o. OverKept old o) (λ o. OverKept new o) (λ o. over_longer old new o longer) overs h

  pub one_kept : (realms : List (Shown S)) (overs now : List (Over I O S)) (o : Over I O S) → now ≡ overs ++ o ∷ [] → OverKept realms o → All (λ o. OverKept realms o) overs → All (λ o. OverKept realms o) now
  one_kept realms overs now o e h all = subst (λ (l : List (Over I O S)). All (λ o. OverKept realms o) l) (sym e) (All-push (λ o. OverKept realms o) overs o all h)

-- what was seen last, if anything was, is of its realm's chronicle
home_in : {S : Type 0} (realms : List (Shown S)) (i : ℕ) (o : Option (Kept History)) (r : Shown S) → slice_get realms i ≡ Some r → IsOf (λ (h : Kept History) chronicle. h.chronicle ≡ chronicle) o (inbox_in r).2
    → IfSome (option_map (λ h. record { realm = i; history = h }) o) (λ (seen : SeenHistory). IsAtHome realms seen)
home_in realms i None r at of = tt
home_in realms i (Some kept) r at of = record { realm = r; at = at; of = of }

-- and it is kept
put_by : {S : Type 0} (realms after : List (Shown S)) (i : ℕ) (o : Option (Kept History)) (r : Shown S) → slice_get realms i ≡ Some r → TakesIn realms (option_map (λ h. record { realm = i; history = h }) o) after
    → (s : Shown S) × (slice_get after i ≡ Some s) × (inbox_in s ≡ inbox_in r) × IsKeptIn s.seen o
put_by realms after i None r at e = (r, ap (λ l. slice_get l i) e ∙ at, refl, tt)
put_by realms after i (Some kept) r at t = (with_seen t.realm kept, ap (λ l. slice_get l i) t.kept ∙ get_set realms i t.realm (with_seen t.realm kept) t.at, ap inbox_in (same_Some t.realm r (sym t.at ∙ at)), Contains-push t.realm.seen kept)

module _ {I S : Type 0} (seen : I → Reading) where
  -- a poster that comes back is of the same inbox
  back_home : (begun : Start) (joining : Joining S) (before now : Passage I S) (end : ReadEnd) → ReadsOn seen begun joining before now end ⊎ StandsStill before now → inbox_of_poster now.poster ≡ inbox_of_poster before.poster
  back_home begun joining before now end (inl h) = same_Some (inbox_of_poster now.poster) (inbox_of_poster before.poster) (ap (λ p. p.inbox) h.posted.posted)
  back_home begun joining before now end (inr h) = same_Some (inbox_of_poster now.poster) (inbox_of_poster before.poster) (ap (λ p. p.inbox) h.unposted)

  -- and of the same connection
  back_conn : (begun : Start) (joining : Joining S) (before now : Passage I S) (end : ReadEnd) → ReadsOn seen begun joining before now end ⊎ StandsStill before now → poster_conn now.poster ≡ poster_conn before.poster
  back_conn begun joining before now end (inl h) = ap (λ p. p.conn) h.posted.posted
  back_conn begun joining before now end (inr h) = ap (λ p. p.conn) h.unposted

module _ {I O S : Type 0} (see : Sight I O) (offer : Offer) where
  -- where a session was served: its realm, and the inbox of that
  served_at : (realms : List (Shown S)) (before : Stream I O S) (source : I) (back : List (Option (Poster S))) (end : ReadEnd) (written : Written O) → (h : IsServed see offer before source back end written) → AreAt (places_of realms) before.posters
      → (r : Shown S) × (slice_get realms written.realm ≡ Some r) × (inbox_in r ≡ inbox_of_poster h.poster)
  served_at realms before source back end written h at =
      let r = get_of_map inbox_in realms h.session.realm (inbox_of_poster h.poster) (at h.session.realm h.poster h.named) in
      let same : written.realm ≡ h.session.realm = h.talks.writes.realm ∙ h.talks.begins.in_realm in
      (r.0, ap (slice_get realms) same ∙ r.1, r.2)

  served_back : (places : List (Place S)) (before : Stream I O S) (source : I) (back : List (Option (Poster S))) (end : ReadEnd) (written : Written O) → IsServed see offer before source back end written → AreAt places before.posters → AreAt places back
  served_back places before source back end written h at i p e = by_place (get_set_cases before.posters h.session.realm i (Some h.left) (Some p) (ap (λ l. slice_get l i) (sym h.posters_are) ∙ e))
    where
      home : inbox_of_poster h.left ≡ inbox_of_poster h.poster
      home = back_home see.reading (start_of h.session) h.talks.joining (passage h.opened_source h.poster) (passage source h.left) end (went_on see.reading (start_of h.session) h.talks.joining (passage h.opened_source h.poster) (passage source h.left) end h.talks.converses)

      by_place : ((h.session.realm ≡ i) × (Some h.left ≡ Some p)) ⊎ ((h.session.realm ≢ i) × (slice_get before.posters i ≡ Some (Some p))) → slice_get places i ≡ Some (inbox_of_poster p)
      by_place (inl w) = ap (slice_get places) (sym w.0) ∙ at h.session.realm h.poster h.named ∙ ap Some (sym home ∙ ap inbox_of_poster (same_Some h.left p w.1))
      by_place (inr w) = at i p w.1

  served_of_seat : (number : ℕ) (before : Stream I O S) (source : I) (back : List (Option (Poster S))) (end : ReadEnd) (written : Written O) → IsServed see offer before source back end written → AreOfSeat number before.posters → AreOfSeat number back
  served_of_seat number before source back end written h own i p e = by_place (get_set_cases before.posters h.session.realm i (Some h.left) (Some p) (ap (λ l. slice_get l i) (sym h.posters_are) ∙ e))
    where
      same : poster_conn h.left ≡ poster_conn h.poster
      same = back_conn see.reading (start_of h.session) h.talks.joining (passage h.opened_source h.poster) (passage source h.left) end (went_on see.reading (start_of h.session) h.talks.joining (passage h.opened_source h.poster) (passage source h.left) end h.talks.converses)

      by_place : ((h.session.realm ≡ i) × (Some h.left ≡ Some p)) ⊎ ((h.session.realm ≢ i) × (slice_get before.posters i ≡ Some (Some p))) → seat_of (poster_conn p) ≡ number
      by_place (inl w) = ap (λ x. seat_of (poster_conn x)) (sym (same_Some h.left p w.1)) ∙ ap seat_of same ∙ own h.session.realm h.poster h.named
      by_place (inr w) = own i p w.1

  -- the posters that a reader gives back stand where they stood
  pub back_at : (places : List (Place S)) (before : Stream I O S) (source : Closed I) (back : List (Option (Poster S))) (course : Course O) → GoesBy see offer before source back course → AreAt places before.posters → AreAt places back
  back_at places before source back (Untouched sink) h at = subst (λ l. AreAt places l) (sym h.2) at
  back_at places before source back (NotOpened sink fault) h at = subst (λ l. AreAt places l) (sym h.1) at
  back_at places before source back (OpenedAlone sink) h at = subst (λ l. AreAt places l) (sym h.1) at
  back_at places before source back (Served end written) h at = served_back places before source.last.value back end written h at

  -- and are of the seat that they were of
  pub back_of_seat : (number : ℕ) (before : Stream I O S) (source : Closed I) (back : List (Option (Poster S))) (course : Course O) → GoesBy see offer before source back course → AreOfSeat number before.posters → AreOfSeat number back
  back_of_seat number before source back (Untouched sink) h own = subst (λ l. AreOfSeat number l) (sym h.2) own
  back_of_seat number before source back (NotOpened sink fault) h own = subst (λ l. AreOfSeat number l) (sym h.1) own
  back_of_seat number before source back (OpenedAlone sink) h own = subst (λ l. AreOfSeat number l) (sym h.1) own
  back_of_seat number before source back (Served end written) h own = served_of_seat number before source.last.value back end written h own

  -- what its writer saw last is of its realm's chronicle
  pub seen_at_home : (realms : List (Shown S)) (before : Stream I O S) (source : Closed I) (back : List (Option (Poster S))) (course : Course O) → GoesBy see offer before source back course → AreAt (places_of realms) before.posters
      → IfSome (seen_of course) (λ (seen : SeenHistory). IsAtHome realms seen)
  seen_at_home realms before source back (Untouched sink) h at = tt
  seen_at_home realms before source back (NotOpened sink fault) h at = tt
  seen_at_home realms before source back (OpenedAlone sink) h at = tt
  seen_at_home realms before source back (Served end written) h at =
      let r = served_at realms before source.last.value back end written h at in
      let writes = h.talks.writes in
      let home : written.drain.value.chronicle ≡ (inbox_in r.0).2 = writes.later.chronicle ∙ h.talks.begins.new.2 ∙ ap (λ (place : Place S). place.2) (sym r.2) in
      let of = subst (λ o. IsOf (λ (k : Kept History) chronicle. k.chronicle ≡ chronicle) o written.drain.value.chronicle) (sym writes.seen) writes.of in
      home_in realms written.realm written.seen r.0 r.1 (subst (λ c. IsOf (λ (k : Kept History) chronicle. k.chronicle ≡ chronicle) written.seen c) home of)

  -- and its realm keeps that
  pub kept_now : (realms after : List (Shown S)) (conn : ℕ) (before : Stream I O S) (source : Closed I) (back : List (Option (Poster S))) (course : Course O) → GoesBy see offer before source back course → AreAt (places_of realms) before.posters
      → AreOf conn before.posters → TakesIn realms (seen_of course) after → CourseKept after conn before.posters course
  kept_now realms after conn before source back (Untouched sink) h at own t = tt
  kept_now realms after conn before source back (NotOpened sink fault) h at own t = tt
  kept_now realms after conn before source back (OpenedAlone sink) h at own t = tt
  kept_now realms after conn before source back (Served end written) h at own t =
      let r = served_at realms before source.last.value back end written h at in
      let s = put_by realms after written.realm written.seen r.0 r.1 t in
      let writes = h.talks.writes in
      record {
        realm = s.0;
        at = s.1;
        poster = h.poster;
        posts = ap (slice_get before.posters) (writes.realm ∙ h.talks.begins.in_realm) ∙ h.named;
        inbox = sym r.2 ∙ sym s.2;
        own = writes.later.conn ∙ h.talks.begins.new.1 ∙ own h.session.realm h.poster h.named;
        owes = subst (λ o. Owes owed_kept o written.drain.value.conn written.drain.value.taken) (sym writes.seen) writes.owes;
        newest_is = writes.seen;
        whole = writes.whole;
        full = λ is. (writes.full is).1;
        lost = λ is. (writes.lost is).1;
        kept = s.3;
      }

module _ {I O S : Type 0} (see : Sight I O) where
  -- a stream that had a seat is over, and what its reader gave back was taken in
  pub seat_kept : (realms after : List (Shown S)) (overs now : List (Over I O S)) (began : Snapshot (Reader I O S)) (left : Snapshot (Ended I O S)) (ended : Ended I O S) → now ≡ overs ++ over.Seated began left ∷ [] → left.value ≡ ended
      → Reads see began.value ended → AreAt (places_of realms) began.value.posters.items → AreOf began.value.conn began.value.posters.items → TakesIn realms (seen_of ended.course) after → All (λ o. OverKept realms o) overs → All (λ o. OverKept after o) now
  seat_kept realms after overs now began left ended e same reads at own t all =
      let here = kept_now see (offer_of (arc_value began.value.plan)) realms after began.value.conn _ ended.source ended.posters.items ended.course reads at own t in
      one_kept after overs now (over.Seated began left) e (subst (λ (x : Ended I O S). CourseKept after began.value.conn began.value.posters.items x.course) (sym same) here)
      (overs_longer realms after overs (takes_longer realms after (seen_of ended.course) t) all)
