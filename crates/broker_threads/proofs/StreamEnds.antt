-- How a stream that had a seat ends.
use Rattle.std.proofs.Common.{◌≡◌, ℕ, List, Option, None, Some, Ok, refl, sym, ap, ◌∙◌, subst, slice_get, set}
use Rattle.rawsocket.specs.Devices.{Reading}
use Rattle.realm_inbox.specs.declared.ends.Poster.{Poster}
use Rattle.session.specs.Opened.{Exchange, OpensSince, Session, exchange}
use Rattle.session.specs.declared.fault.Fault.{Fault}
use Rattle.broker_threads.proofs.Slots.{put_back, put_twice}
use Rattle.broker_threads.specs.Streams.{GoesBy, IsNotOpened, IsOpened, IsUntouched, Offer, Sight, Stream, stream}
use Rattle.broker_threads.specs.Talks.{Passage, Talks, passage}
use Rattle.broker_threads.specs.declared.closed.Closed.{Closed}
use Rattle.broker_threads.specs.declared.course.Course.{Course}
use Rattle.broker_threads.specs.declared.course.Course.TheVariants.{Untouched, NotOpened, OpenedAlone, Served}

module _ {I O S : Type 0} (see : Sight I O) (offer : Offer) where
  pub untouched : (source : I) (sink : O) (posters back : List (Option (Poster S))) (closed : Closed I) (course : Course O) → closed.last.value ≡ source → back ≡ posters → IsUntouched sink course
      → GoesBy see offer (stream source sink posters) closed back course
  untouched source sink posters back closed (Untouched s) e p h = (e, h, p)
  untouched source sink posters back closed (NotOpened s fault) e p h = absurd h
  untouched source sink posters back closed (OpenedAlone s) e p h = absurd h
  untouched source sink posters back closed (Served end written) e p h = absurd h

  pub not_opened : (before : Stream I O S) (source : I) (sink : O) (fault : Fault) (closed : Closed I) (closed_sink : Closed O) → closed.last.value ≡ source → closed_sink.last.value ≡ sink
      → IsNotOpened see offer before source sink fault → GoesBy see offer before closed before.posters (NotOpened closed_sink fault)
  not_opened before source sink fault closed closed_sink e f h =
      (subst (λ (o : O). IsNotOpened see offer before closed.last.value o fault) (sym f) (subst (λ (i : I). IsNotOpened see offer before i sink fault) (sym e) h), refl)

  -- an opening, with what was read and written the same
  opened_as : (before : Stream I O S) (source source_now : I) (sink sink_now : O) (session : Session) → see.reading source_now ≡ see.reading source → sink_now ≡ sink → IsOpened see offer before source sink session → IsOpened see offer before source_now sink_now session
  opened_as before source source_now sink sink_now session e f h =
      let same : exchange (see.reading source).given (see.writing sink).taken ≡ exchange (see.reading source_now).given (see.writing sink_now).taken =
      ap (λ (r : Reading). exchange r.given (see.writing sink).taken) (sym e) ∙ ap (λ (o : O). exchange (see.reading source_now).given (see.writing o).taken) (sym f) in
      record {
        opens = subst (λ (x : Exchange). OpensSince offer.bound offer.names (exchange (see.reading before.source).given (see.writing before.sink).taken) x (Ok session)) same h.opens;
        same = record { read = ap (λ (r : Reading). r.name) e ∙ h.same.read; written = ap (λ (o : O). (see.writing o).name) f ∙ h.same.written };
      }

  pub opened_alone : (before : Stream I O S) (source : I) (sink : O) (session : Session) (back : List (Option (Poster S))) (closed : Closed I) (closed_sink : Closed O) → closed.last.value ≡ source → closed_sink.last.value ≡ sink → back ≡ before.posters
      → IsOpened see offer before source sink session → GoesBy see offer before closed back (OpenedAlone closed_sink)
  opened_alone before source sink session back closed closed_sink e f p h = ((session, opened_as before source closed.last.value sink closed_sink.last.value session (ap see.reading e) f h), p)

  pub talked : (before : Stream I O S) (session : Session) (opened_source source : I) (opened_sink : O) (poster left : Poster S) (closed : Closed I) (course : Course O) (away back : List (Option (Poster S)))
      → IsOpened see offer before opened_source opened_sink session → slice_get before.posters session.realm ≡ Some (Some poster) → away ≡ set before.posters session.realm None → back ≡ set away session.realm (Some left) → closed.last.value ≡ source
      → Talks see offer.room session opened_sink (passage opened_source poster) (passage source left) course → GoesBy see offer before closed back course
  talked before session opened_source source opened_sink poster left closed (Untouched s) away back h at a b e t = absurd t
  talked before session opened_source source opened_sink poster left closed (NotOpened s fault) away back h at a b e t = absurd t
  talked before session opened_source source opened_sink poster left closed (OpenedAlone s) away back h at a b e t =
      let still = ap see.reading (e ∙ ap (λ (p : Passage I S). p.source) t.0) in
      let same : left ≡ poster = ap (λ (p : Passage I S). p.poster) t.0 in
      let places = b ∙ ap (λ (xs : List (Option (Poster S))). set xs session.realm (Some left)) a ∙ put_twice before.posters session.realm None (Some left) ∙ ap (λ (p : Poster S). set before.posters session.realm (Some p)) same in
      ((session, opened_as before opened_source closed.last.value opened_sink s.last.value session still t.1 h), places ∙ put_back before.posters session.realm (Some poster) at)
  talked before session opened_source source opened_sink poster left closed (Served end written) away back h at a b e t = record {
    session = session;
    opened_source = opened_source;
    opened_sink = opened_sink;
    opens = h;
    poster = poster;
    left = left;
    named = at;
    posters_are = b ∙ ap (λ (xs : List (Option (Poster S))). set xs session.realm (Some left)) a ∙ put_twice before.posters session.realm None (Some left);
    talks = subst (λ (i : I). Talks see offer.room session opened_sink (passage opened_source poster) (passage i left) (Served end written)) (sym e) t;
  }
