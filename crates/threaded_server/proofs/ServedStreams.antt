-- What a broker served, stream by stream, by what its threads were given and gave back.
use Rattle.std.proofs.Common.{◌≡◌, ◌≢◌, ◌+◌, ◌≤◌, ℕ, Bool, true, false, List, [], ◌∷◌, ◌++◌, Option, None, Some, All, if◌then◌else◌, length, map, slice_get, refl, sym, ap, ◌∙◌, subst, append_assoc, append-nil}
use Rattle.std.specs.Prelude.{◌==◌, ◌&&◌, IsPermutation, min, option_to_list}
use mathlib.Core.List.{IsPrefix}
use mathlib.Core.Logic.{◌⊎◌, inl, inr}
use Rattle.std.proofs.Math.Logic.{∥∥₁_elim, ∥∥₁_map}
use Rattle.std.proofs.Math.Seq.{drop-append_seam}
use Rattle.std.proofs.lemmas.Bool.{eq-eqb, ne_eqb}
use Rattle.std.proofs.lemmas.List.{length-map, map-append}
use Rattle.std.proofs.lemmas.List.Elements.{All-cons, All-head, All-map, All-nil, All-tail, All-weaker}
use Rattle.std.proofs.lemmas.Option.{none-some, same_Some}
use Rattle.std.specs.Arc.{arc_value}
use Rattle.std.specs.List.{flat_map, list_any}
use Rattle.std.specs.Option.{option_flatten}
use Rattle.atomic_table.specs.Seated.{TableId}
use Rattle.broker_threads.specs.Courses.{fate_of, sink_of}
use Rattle.broker_threads.specs.Streams.{GoesBy, IsServed, KeepsNames, Offer, Sight, Stream, stream}
use Rattle.broker_threads.specs.Talks.{Converses, StandsStill, passage, start_of}
use Rattle.broker_threads.specs.declared.closed.Closed.{Closed}
use Rattle.broker_threads.specs.declared.course.Course.{Course}
use Rattle.broker_threads.specs.declared.course.Course.TheVariants as course
use Rattle.broker_threads.specs.declared.stream_fate.StreamFate.TheVariants as fate
use Rattle.broker_threads.specs.declared.writer_thread.Written.{Written}
use Rattle.connection.specs.Writer.{IsWrittenBy, write_told}
use Rattle.connection.specs.declared.reader.ReadEnd.{ReadEnd}
use Rattle.connection.specs.declared.reader.ReadEnd.TheVariants.{ActorGone, NoMemory}
use Rattle.outbox_queue.specs.Outbox.{new_outbox}
use Rattle.rawsocket.specs.Steps.{WriteSteps}
use Rattle.rawsocket.specs.declared.handshake.Serializer.{Serializer}
use Rattle.realm.specs.Sessions.{joined}
use Rattle.realm.specs.Yield.{owed}
use Rattle.realm_inbox.specs.EndViews.{home_of_poster, inbox_of_poster, posted, poster_conn}
use Rattle.realm_inbox.specs.Ends.{Place}
use Rattle.realm_inbox.specs.Over.{was_cut}
use Rattle.realm_inbox.specs.Seats.{at_seat}
use Rattle.realm_inbox.specs.declared.act.Act.{Act}
use Rattle.realm_inbox.specs.declared.act.Act.TheVariants.{Join}
use Rattle.realm_inbox.specs.declared.ends.Poster.{Poster}
use Rattle.threaded_server.proofs.Places.{get_of_map, get_other, get_set, map_get, same_or_other}
use Rattle.threaded_server.proofs.RunHistories.{realm_made, realm_of}
use Rattle.threaded_server.specs.Conns.{conn_of, conns_of}
use Rattle.threaded_server.specs.Histories.{IsRealm, Realm, Start, until_stop}
use Rattle.threaded_server.specs.Lending.{Lending, returned}
use Rattle.threaded_server.specs.Overs.{Found, Went, after_of, before_of}
use Rattle.threaded_server.specs.Posts.{ReceivedPosted, posts_at, posts_between, posts_of, since}
use Rattle.threaded_server.specs.Served.{HandledAll, IsFate, IsSession, LentStream, ReceivedAll, Served, posts_by}
use Rattle.threaded_server.specs.SeatRules.{AscendAtSeats, FoundNoSeat}
use Rattle.threaded_server.specs.Sessions.{SaysSome}
use Rattle.threaded_server.specs.Stopping.{HandledBefore}
use Rattle.threaded_server.specs.Ties.{CourseTied, IsRun, IsTied, OverTied, history_of}
use Rattle.threaded_server.specs.body.Served.{ServedInParts}
use Rattle.threaded_server.specs.declared.answer.Answer.{Answer}
use Rattle.threaded_server.specs.declared.over.Over.{Over}
use Rattle.threaded_server.specs.declared.over.Over.TheVariants.{Seated, TurnedAway, Untouched}
use Rattle.threaded_server.specs.declared.realm_run.RealmRun.{RealmRun}
use Rattle.wamp_ids.specs.Numbers.{seat_of}
use Rattle.wamp_messages.specs.declared.item.Item.{Item}

module _ {A : Type 0} where
  -- what holds of each, though it isn't told how, holds of all, though it isn't told how
  pub of_all : (P : A → Type 0) (xs : List A) → All (λ x. ∥ P x ∥₁) xs → ∥ All P xs ∥₁
  of_all P [] h = ∣ All-nil P ∣₁
  of_all P (x ∷ xs) h = ∥∥₁_elim (All-head (λ y. ∥ P y ∥₁) x xs h) squash₁ (λ p. ∥∥₁_map (of_all P xs (All-tail (λ y. ∥ P y ∥₁) x xs h)) (λ all. All-cons P x xs p all))

  -- what holds of each of a list holds of each of its beginning
  all_front : (P : A → Type 0) (xs ys : List A) → All P (xs ++ ys) → All P xs
  all_front P [] ys h = All-nil P
  all_front P (x ∷ xs) ys h = All-cons P x xs (All-head P x (xs ++ ys) h) (all_front P xs ys (All-tail P x (xs ++ ys) h))

  all_begun : (P : A → Type 0) (xs ys : List A) → IsPrefix xs ys → All P ys → All P xs
  all_begun P xs ys p h = all_front P xs p.0 (subst (λ l. All P l) (sym p.1) h)

  nothing_since : (xs : List A) → since xs xs ≡ []
  nothing_since xs = ap (since xs) (sym (append-nil xs)) ∙ drop-append_seam xs []

  since_more : (xs ys more : List A) → ys ≡ xs ++ more → since xs ys ≡ more
  since_more xs ys more e = ap (since xs) e ∙ drop-append_seam xs more

module _ {S : Type 0} where
  -- the acts that were posted meanwhile
  abbrev acts_between : Option (Poster S) → Option (Poster S) → List (Act S)
  acts_between None back = []
  acts_between (Some given) None = []
  acts_between (Some given) (Some back) = map (λ x. x.1) (since (posted given) (posted back))

-- where a stream posted
abbrev realm_in : {O : Type 0} → Course O → ℕ
realm_in (course.Untouched sink) = 0
realm_in (course.NotOpened sink fault) = 0
realm_in (course.OpenedAlone sink) = 0
realm_in (course.Served end written) = written.realm

module _ {O S : Type 0} where
  -- and what
  abbrev acts_in : List (Option (Poster S)) → List (Option (Poster S)) → Course O → List (Act S)
  acts_in given back (course.Untouched sink) = []
  acts_in given back (course.NotOpened sink fault) = []
  acts_in given back (course.OpenedAlone sink) = []
  acts_in given back (course.Served end written) = acts_between (option_flatten (slice_get given written.realm)) (option_flatten (slice_get back written.realm))

module _ {I O S : Type 0} where
  abbrev conn_in : Over I O S → Option ℕ
  conn_in (Seated reader ended) = Some reader.value.conn
  conn_in (TurnedAway them source sink) = None
  conn_in (Untouched them) = None

  abbrev place_in : Over I O S → ℕ
  place_in (Seated reader ended) = realm_in ended.value.course
  place_in (TurnedAway them source sink) = 0
  place_in (Untouched them) = 0

  abbrev posted_in : Over I O S → List (Act S)
  posted_in (Seated reader ended) = acts_in reader.value.posters.items ended.value.posters.items ended.value.course
  posted_in (TurnedAway them source sink) = []
  posted_in (Untouched them) = []

  -- what is seen of a stream that is over
  abbrev pub stream_of : Over I O S → LentStream I O S
  stream_of over = record { lent = before_of over; back = after_of over; conn = conn_in over; realm = place_in over; posted = posted_in over }

  -- the two halves of each, as they were lent and as they came back
  lent_as : (overs : List (Over I O S)) → map (λ (s : LentStream I O S). s.lent) (map stream_of overs) ≡ map before_of overs
  lent_as [] = refl
  lent_as (o ∷ overs) = ap (λ l. before_of o ∷ l) (lent_as overs)

  back_as : (overs : List (Over I O S)) → map (λ (s : LentStream I O S). s.back) (map stream_of overs) ≡ map after_of overs
  back_as [] = refl
  back_as (o ∷ overs) = ap (λ l. after_of o ∷ l) (back_as overs)

  number_as : (o : Over I O S) → option_to_list (conn_in o) ≡ conn_of o
  number_as (Seated reader ended) = refl
  number_as (TurnedAway them source sink) = refl
  number_as (Untouched them) = refl

  numbers_as : (overs : List (Over I O S)) → flat_map (λ (s : LentStream I O S). option_to_list s.conn) (map stream_of overs) ≡ conns_of overs
  numbers_as [] = refl
  numbers_as (o ∷ overs) = λ i. number_as o i ++ numbers_as overs i

if_same : {A : Type 0} (b : Bool) (x : A) → (if b then x else x) ≡ x
if_same true x = refl
if_same false x = refl

module _ {S : Type 0} where
  again : (conn : ℕ) (acts : List (Act S)) → map (λ (x : ℕ × Act S). x.1) (map (λ act. (conn, act)) acts) ≡ acts
  again conn [] = refl
  again conn (act ∷ acts) = ap (λ l. act ∷ l) (again conn acts)

  between_same : (number : ℕ) (o : Option (Poster S)) → posts_between number o o ≡ []
  between_same number None = refl
  between_same number (Some p) = ap (λ l. if seat_of (poster_conn p) == number then l else []) (nothing_since (posted p)) ∙ if_same (seat_of (poster_conn p) == number) []

module _ {I O S : Type 0} (see : Sight I O) (offer : Offer) (runs : List (RealmRun S)) where
  -- what a session's reader posted meanwhile, of what it read
  record Meanwhile (before : Stream I O S) (source : I) (back : List (Option (Poster S))) (end : ReadEnd) (written : Written O) (h : IsServed see offer before source back end written) : Type 0 where
    pub acts : List (Act S)
    pub since : since (posted h.poster) (posted h.left) ≡ map (λ act. (poster_conn h.poster, act)) acts
    pub says : SaysSome see.reading h.session h.talks.joining h.opened_source source end acts

  meanwhile : (before : Stream I O S) (source : I) (back : List (Option (Poster S))) (end : ReadEnd) (written : Written O) (h : IsServed see offer before source back end written) → Meanwhile before source back end written h
  meanwhile before source back end written h = by_talk h.talks.converses
    where
      still : StandsStill (passage h.opened_source h.poster) (passage source h.left) → (end ≡ ActorGone) ⊎ (end ≡ NoMemory) → Meanwhile before source back end written h
      still none why = record {
        acts = [];
        since = since_more (posted h.poster) (posted h.left) [] (ap (λ p. p.said) none.unposted ∙ sym (append-nil (posted h.poster)));
        says = inr (none.unread, refl, why);
      }

      by_talk : Converses see.reading (start_of h.session) h.talks.joining (passage h.opened_source h.poster) (passage source h.left) end ⊎ (StandsStill (passage h.opened_source h.poster) (passage source h.left) × (end ≡ NoMemory)) → Meanwhile before source back end written h
      by_talk (inl (inl r)) = let of : Act S → ℕ × Act S = λ act. (poster_conn h.poster, act) in record {
        acts = Join h.talks.joining ∷ r.posted.acts;
        since = since_more (posted h.poster) (posted h.left) (map of (Join h.talks.joining ∷ r.posted.acts)) (ap (λ p. p.said) r.posted.posted ∙ append_assoc (posted h.poster) (map of (Join h.talks.joining ∷ [])) (map of r.posted.acts));
        says = inl (record { octets = r.posted.octets; acts = r.posted.acts; read = r.posted.read; posted_are = refl; says = r.posted.holds; ended = r.ended; steps = r.reads });
      }
      by_talk (inl (inr back_again)) = still back_again.0 (inl back_again.1)
      by_talk (inr none) = still none.0 (inr none.1)

  -- what is seen of a stream that had a seat
  abbrev seated_as : ℕ → Stream I O S → Closed I → List (Option (Poster S)) → Course O → LentStream I O S
  seated_as conn before source back c = record { lent = (before.source, before.sink); back = returned source.last.value (sink_of c).last.value (fate_of c); conn = Some conn; realm = realm_in c; posted = acts_in before.posters back c }

  -- a session that was served: its poster, before and behind that, its connection, and what it posted
  served_as : (conn : ℕ) (before : Stream I O S) (source : I) (back : List (Option (Poster S))) (end : ReadEnd) (written : Written O) → (h : IsServed see offer before source back end written) → IsTied runs conn before.posters written
      → (written.realm ≡ h.session.realm) × (poster_conn h.poster ≡ conn) × (slice_get before.posters h.session.realm ≡ Some (Some h.poster)) × (slice_get back h.session.realm ≡ Some (Some h.left))
  served_as conn before source back end written h t = (
    h.talks.writes.realm ∙ h.talks.begins.in_realm,
    sym (h.talks.writes.later.conn ∙ h.talks.begins.new.1) ∙ t.own,
    h.named,
    ap (λ l. slice_get l h.session.realm) h.posters_are ∙ get_set before.posters h.session.realm (Some h.poster) (Some h.left) h.named,
  )

  acts_as : (conn : ℕ) (before : Stream I O S) (source : I) (back : List (Option (Poster S))) (end : ReadEnd) (written : Written O) → (h : IsServed see offer before source back end written) → (t : IsTied runs conn before.posters written)
      → acts_in before.posters back (course.Served end written) ≡ (meanwhile before source back end written h).acts
  acts_as conn before source back end written h t =
      let a = served_as conn before source back end written h t in
      let m = meanwhile before source back end written h in
      let there : acts_between (option_flatten (slice_get before.posters h.session.realm)) (option_flatten (slice_get back h.session.realm)) ≡ acts_between (Some h.poster) (Some h.left) = λ i. acts_between (option_flatten (a.2 i)) (option_flatten (a.3 i)) in
      ap (λ n. acts_between (option_flatten (slice_get before.posters n)) (option_flatten (slice_get back n))) a.0 ∙ there ∙ ap (map (λ (x : ℕ × Act S). x.1)) m.since ∙ again (poster_conn h.poster) m.acts

  session_as : (conn : ℕ) (before : Stream I O S) (source : Closed I) (back : List (Option (Poster S))) (end : ReadEnd) (written : Written O) → (h : IsServed see offer before source.last.value back end written) → (t : IsTied runs conn before.posters written)
      → IsSession see offer (map realm_of runs) (seated_as conn before source back (course.Served end written)) conn (record { read = end; write = written.end })
  session_as conn before source back end written h t =
      let a = served_as conn before source.last.value back end written h t in
      let m = meanwhile before source.last.value back end written h in
      let writes = h.talks.writes in
      let begins = h.talks.begins in
      record {
        hello = h.session;
        source = h.opened_source;
        sink = h.opened_sink;
        opened = record { opens = h.opens.opens; same = h.opens.same };
        realm = realm_of t.run;
        named = map_get realm_of runs h.session.realm t.run (ap (slice_get runs) (sym a.0) ∙ t.at);
        there = a.0;
        join = h.talks.joining;
        joins = record { asks = begins.asks; outbox = begins.outbox ∙ ap (λ (q : TableId). new_outbox q offer.room (poster_conn h.poster) (home_of_poster h.poster)) queue ∙ ap (λ (n : ℕ). new_outbox h.talks.joining.outbox.queue offer.room n (home_of_poster h.poster)) a.1 ∙ ap (new_outbox h.talks.joining.outbox.queue offer.room conn) home };
        says = subst (λ (acts : List (Act S)). SaysSome see.reading h.session h.talks.joining h.opened_source source.last.value end acts) (sym (acts_as conn before source.last.value back end written h t)) m.says;
        items = written.drain.value.taken;
        written = record {
          octets = writes.written.octets;
          wrote = writes.written.wrote ∙ ap (λ (o : O). (see.writing o).taken ++ writes.written.octets) begins.writes_to;
          says = subst (λ (s : Serializer). IsWrittenBy s (min h.session.limit 16777215) written.end written.drain.value.taken writes.written.octets) begins.serializer
              (subst (λ (n : ℕ). IsWrittenBy h.talks.writer.serializer n written.end written.drain.value.taken writes.written.octets) begins.limit
              (subst (λ (items : List Item). IsWrittenBy h.talks.writer.serializer h.talks.writer.limit written.end items writes.written.octets) (sym took) writes.written.written));
          steps = subst (λ (o : O). WriteSteps (see.writing o) (see.writing written.sink.last.value) (write_told written.end)) begins.writes_to writes.steps;
        };
        due = subst (λ (c : ℕ). IsPrefix written.drain.value.taken (owed (history_of t.run) c)) t.own t.owes;
        whole = λ stopped. t.whole stopped ∙ ap (owed (history_of t.run)) t.own;
        full = λ found. subst (λ (n : ℕ). n ≤ length written.drain.value.taken) (writes.later.capacity ∙ begins.new.5) (t.full found);
        asked = λ told. ap (λ (n : ℕ). list_any (λ d. d == n) (joined (history_of t.run))) (sym t.own) ∙ t.asked told;
        uncut = λ stopped. ap (was_cut (history_of t.run)) (sym t.own) ∙ t.uncut stopped;
        lost = λ is. ((t.lost is).0 ∙ ap (owed (history_of t.run)) t.own, ap (was_cut (history_of t.run)) (sym t.own) ∙ (t.lost is).1);
      }
    where
      took : written.drain.value.taken ≡ h.talks.writes.written.items
      took = h.talks.writes.written.took ∙ ap (λ l. l ++ h.talks.writes.written.items) h.talks.begins.new.3

      queue : h.talks.writer.drain.queue ≡ h.talks.joining.outbox.queue
      queue = sym (ap (λ o. o.queue) h.talks.begins.outbox)

      poster_is : h.poster ≡ t.poster
      poster_is = same_Some h.poster t.poster (same_Some (Some h.poster) (Some t.poster) (sym h.named ∙ ap (slice_get before.posters) (sym (h.talks.writes.realm ∙ h.talks.begins.in_realm)) ∙ t.posts))

      home : home_of_poster h.poster ≡ Some t.run.began.value.chronicle.chronicle
      home = ap (λ (place : Place S). place.2) (ap inbox_of_poster poster_is ∙ t.inbox) ∙ t.run.began.value.home

  -- what became of a stream that had a seat is what its acceptor is told of it
  seated_fate : (conn : ℕ) (before : Stream I O S) (source : Closed I) (back : List (Option (Poster S))) (c : Course O) → GoesBy see offer before source back c → CourseTied runs conn before.posters c
      → IsFate see offer (map realm_of runs) (seated_as conn before source back c) (fate_of c)
  seated_fate conn before source back (course.Untouched sink) h t = ((λ i. (h.0 i, h.1 i)), refl)
  seated_fate conn before source back (course.NotOpened sink fault) h t = (record { decided = h.0.decided; begun = h.0.begun; cause = h.0.cause; same = h.0.same }, (λ none. none-some conn (sym none)), refl)
  seated_fate conn before source back (course.OpenedAlone sink) h t = ((h.0.0, record { opens = h.0.1.opens; same = h.0.1.same }), (λ none. none-some conn (sym none)), refl)
  seated_fate conn before source back (course.Served end written) h t = (conn, refl, session_as conn before source back end written h t)

  -- what it posted is what its posters say
  none_posted : (realm number conn place : ℕ) (given back : List (Option (Poster S))) → back ≡ given → (if place == realm && seat_of conn == number then [] else [])
      ≡ posts_between number (option_flatten (slice_get given realm)) (option_flatten (slice_get back realm))
  none_posted realm number conn place given back e =
      if_same (place == realm && seat_of conn == number) [] ∙ sym (ap (λ l. posts_between number (option_flatten (slice_get given realm)) (option_flatten (slice_get l realm))) e ∙ between_same number (option_flatten (slice_get given realm)))

  seated_posts : (realm number conn : ℕ) (before : Stream I O S) (source : Closed I) (back : List (Option (Poster S))) (c : Course O) → GoesBy see offer before source back c → CourseTied runs conn before.posters c
      → posts_by realm number (seated_as conn before source back c) (Some conn) ≡ posts_between number (option_flatten (slice_get before.posters realm)) (option_flatten (slice_get back realm))
  seated_posts realm number conn before source back (course.Untouched sink) h t = none_posted realm number conn 0 before.posters back h.2
  seated_posts realm number conn before source back (course.NotOpened sink fault) h t = none_posted realm number conn 0 before.posters back h.1
  seated_posts realm number conn before source back (course.OpenedAlone sink) h t = none_posted realm number conn 0 before.posters back h.1
  seated_posts realm number conn before source back (course.Served end written) h t = by_place (same_or_other h.session.realm realm)
    where
      by_place : (h.session.realm ≡ realm) ⊎ (h.session.realm ≢ realm)
          → (if written.realm == realm && seat_of conn == number then map (λ act. (conn, act)) (acts_in before.posters back (course.Served end written)) else []) ≡ posts_between number (option_flatten (slice_get before.posters realm)) (option_flatten (slice_get back realm))
      by_place (inl here) =
          let a = served_as conn before source.last.value back end written h t in
          let m = meanwhile before source.last.value back end written h in
          let there : posts_between number (option_flatten (slice_get before.posters h.session.realm)) (option_flatten (slice_get back h.session.realm)) ≡ posts_between number (Some h.poster) (Some h.left) = λ i. posts_between number (option_flatten (a.2 i)) (option_flatten (a.3 i)) in
          ap (λ b. if b && seat_of conn == number then map (λ act. (conn, act)) (acts_in before.posters back (course.Served end written)) else []) (eq-eqb written.realm realm (a.0 ∙ here))
          ∙ ap (λ l. if seat_of conn == number then l else []) (ap (map (λ (act : Act S). (conn, act))) (acts_as conn before source.last.value back end written h t) ∙ ap (λ (n : ℕ). map (λ act. (n, act)) m.acts) (sym a.1) ∙ sym m.since)
          ∙ ap (λ (n : ℕ). if seat_of n == number then since (posted h.poster) (posted h.left) else []) (sym a.1)
          ∙ sym there
          ∙ ap (λ n. posts_between number (option_flatten (slice_get before.posters n)) (option_flatten (slice_get back n))) here
      by_place (inr other) =
          let a = served_as conn before source.last.value back end written h t in
          ap (λ b. if b && seat_of conn == number then map (λ act. (conn, act)) (acts_in before.posters back (course.Served end written)) else []) (ne_eqb written.realm realm (λ same. other (sym a.0 ∙ same)))
          ∙ sym (ap (λ o. posts_between number (option_flatten (slice_get before.posters realm)) (option_flatten o)) (ap (λ l. slice_get l realm) h.posters_are ∙ get_other before.posters h.session.realm realm (Some h.left) (λ same. other (sym same)))
          ∙ between_same number (option_flatten (slice_get before.posters realm)))

  -- the same of each stream that is over
  fate_as : (o : Over I O S) → Went see offer o → OverTied runs o → IsFate see offer (map realm_of runs) (stream_of o) (after_of o).fate
  fate_as (Seated reader ended) w t =
      let r = reader.value in
      seated_fate r.conn (stream r.source r.sink r.posters.items) ended.value.source ended.value.posters.items ended.value.course
      (subst (λ (n : Offer). GoesBy see n (stream r.source r.sink r.posters.items) ended.value.source ended.value.posters.items ended.value.course) w.0 w.1) t
  fate_as (TurnedAway them source sink) w t = (w, refl, refl)
  fate_as (Untouched them) w t = (refl, refl)

  posts_as : (realm number : ℕ) (o : Over I O S) → Went see offer o → OverTied runs o → posts_by realm number (stream_of o) (stream_of o).conn ≡ posts_of realm number o
  posts_as realm number (Seated reader ended) w t =
      let r = reader.value in
      seated_posts realm number r.conn (stream r.source r.sink r.posters.items) ended.value.source ended.value.posters.items ended.value.course
      (subst (λ (n : Offer). GoesBy see n (stream r.source r.sink r.posters.items) ended.value.source ended.value.posters.items ended.value.course) w.0 w.1) t
  posts_as realm number (TurnedAway them source sink) w t = refl
  posts_as realm number (Untouched them) w t = refl

  all_fates : (overs : List (Over I O S)) → All (λ o. Went see offer o) overs → All (λ o. OverTied runs o) overs → All (λ (s : LentStream I O S). IsFate see offer (map realm_of runs) s s.back.fate) (map stream_of overs)
  all_fates [] went tied = All-nil (λ (s : LentStream I O S). IsFate see offer (map realm_of runs) s s.back.fate)
  all_fates (o ∷ overs) went tied =
      let W = λ (x : Over I O S). Went see offer x in
      let T = λ (x : Over I O S). OverTied runs x in
      All-cons (λ (s : LentStream I O S). IsFate see offer (map realm_of runs) s s.back.fate) (stream_of o) (map stream_of overs) (fate_as o (All-head W o overs went) (All-head T o overs tied)) (all_fates overs (All-tail W o overs went) (All-tail T o overs tied))

  all_posts : (realm number : ℕ) (overs : List (Over I O S)) → All (λ o. Went see offer o) overs → All (λ o. OverTied runs o) overs → flat_map (λ (s : LentStream I O S). posts_by realm number s s.conn) (map stream_of overs) ≡ posts_at realm number overs
  all_posts realm number [] went tied = refl
  all_posts realm number (o ∷ overs) went tied =
      let W = λ (x : Over I O S). Went see offer x in
      let T = λ (x : Over I O S). OverTied runs x in
      λ i. posts_as realm number o (All-head W o overs went) (All-head T o overs tied) i ++ all_posts realm number overs (All-tail W o overs went) (All-tail T o overs tied) i

  received_all : (overs : List (Over I O S)) → All (λ o. Went see offer o) overs → All (λ o. OverTied runs o) overs → ReceivedPosted runs overs → ReceivedAll (map realm_of runs) (map stream_of overs)
  received_all overs went tied received i k realm at less =
      let run = get_of_map realm_of runs i realm at in
      ap (λ (r : Realm S). at_seat (k + 1) r.received) (sym run.2) ∙ received i k run.0 run.1 less ∙ sym (all_posts i (k + 1) overs went tied)

  -- and was handled, of those that were over before a stop was posted
  handled_all : (overs early : List (Over I O S)) → All (λ o. Went see offer o) overs → All (λ o. OverTied runs o) overs → IsPrefix early overs → HandledBefore runs early → HandledAll (map realm_of runs) (map stream_of early)
  handled_all overs early went tied begins handled i k realm at less =
      let run = get_of_map realm_of runs i realm at in
      let posts = all_posts i (k + 1) early (all_begun (λ o. Went see offer o) early overs begins went) (all_begun (λ o. OverTied runs o) early overs begins tied) in
      subst (λ (r : Realm S). IsPrefix (flat_map (λ (s : LentStream I O S). posts_by i (k + 1) s s.conn) (map stream_of early)) (at_seat (k + 1) (until_stop r.received))) run.2
      (subst (λ l. IsPrefix l (at_seat (k + 1) (until_stop (realm_of run.0).received))) (sym posts) (handled i k run.0 run.1 less))

module _ {I O S : Type 0} where
  -- who was told that no seat is free found none
  turned_away : (lent : List (I × O)) (i : ℕ) (o : Over I O S) → Found lent i o → (after_of o).fate ≡ fate.NoSeat → FoundNoSeat lent i (before_of o)
  turned_away lent i (TurnedAway them source sink) found is = found
  turned_away lent i (Untouched them) found is = absurd (let clash : fate.NoMemory ≡ fate.NoSeat = is in cc)
  turned_away lent i (Seated reader ended) found is = by_course ended.value.course is
    where
      by_course : (c : Course O) → fate_of c ≡ fate.NoSeat → FoundNoSeat lent i (reader.value.source, reader.value.sink)
      by_course (course.Untouched sink) is = absurd (let clash : fate.NoMemory ≡ fate.NoSeat = is in cc)
      by_course (course.NotOpened sink fault) is = absurd (let clash : fate.NotOpened fault ≡ fate.NoSeat = is in cc)
      by_course (course.OpenedAlone sink) is = absurd (let clash : fate.OpenedAlone ≡ fate.NoSeat = is in cc)
      by_course (course.Served end written) is = absurd (let clash : fate.Served (record { read = end; write = written.end }) ≡ fate.NoSeat = is in cc)

  -- what was served, by the parts of it
  pub told : (see : Sight I O) (offer : Offer) (start : Start) (before now : List Answer) (was lending : Lending I O) (asked : ℕ) → ServedInParts S see offer start before now was lending asked → ∥ Served S see offer start before now was lending asked ∥₁
  told see offer start before now was lending asked h =
      ∥∥₁_elim (of_all (λ o. Went see offer o) h.streams h.went.went) squash₁ (λ went.
      ∥∥₁_elim h.tied squash₁ (λ tied.
      ∥∥₁_elim h.received squash₁ (λ received.
      ∥∥₁_elim h.handled squash₁ (λ handled.
      ∥∥₁_map (of_all (λ o. KeepsNames see (before_of o) ((after_of o).source, (after_of o).sink)) h.streams h.own) (λ own. record {
        given = h.given;
        answered = h.answered;
        lent = h.lent;
        refused = h.refused;
        all_came = h.all_came;
        lent_are = h.lent_are;
        refused_are = h.refused_are;
        streams = map stream_of h.streams;
        each = subst (λ l. IsPermutation h.lent l) (sym (lent_as h.streams)) h.went.each;
        returned_are = h.returned_are ∙ ap (λ l. was.returned ++ l) (sym (back_as h.streams));
        names = All-map (λ (s : LentStream I O S). KeepsNames see s.lent (s.back.source, s.back.sink)) stream_of h.streams own;
        realms = map realm_of h.runs;
        all_ran = λ given. length-map h.runs realm_of ∙ h.all_ran given;
        histories = All-map (λ (realm : Realm S). IsRealm start realm) realm_of h.runs (All-weaker (λ run. IsRun start run) (λ run. IsRealm start (realm_of run)) (realm_made start) h.runs h.each_ran);
        fates = all_fates see offer h.runs h.streams went tied;
        received = received_all see offer h.runs h.streams went tied received;
        early = map stream_of h.early;
        early_are = (map stream_of h.early_are.0, sym (map-append stream_of h.early h.early_are.0) ∙ ap (map stream_of) h.early_are.1);
        early_came = λ given. subst (λ (n : ℕ). asked ≤ length was.returned + n) (sym (length-map h.early stream_of)) (h.early_came given);
        handled = handled_all see offer h.runs h.streams h.early went tied h.early_are handled;
        no_seat = λ i s at is.
            let o = get_of_map stream_of h.streams i s at in
            subst (λ (x : LentStream I O S). FoundNoSeat h.lent i x.lent) o.2 (turned_away h.lent i o.0 (h.went.found i o.0 o.1) (ap (λ (x : LentStream I O S). x.back.fate) o.2 ∙ is));
        numbers = subst (λ l. AscendAtSeats l) (sym (numbers_as h.streams)) h.ascend;
      })))))
