-- What the streams posted, as they go over.
use Rattle.std.proofs.Common.{◌≡◌, ◌≢◌, ◌+◌, ℕ, Bool, List, [], ◌∷◌, ◌++◌, Option, None, Some, map, set, slice_get, length, length-set, refl, sym, ap, ◌∙◌, subst, append_assoc, append-nil, if◌then◌else◌}
use mathlib.Core.Logic.{◌⊎◌, inl, inr}
use Rattle.std.proofs.Math.Seq.{drop-append_seam}
use Rattle.std.proofs.lemmas.Bool.{eq-eqb, ne_eqb}
use Rattle.std.proofs.lemmas.Grind.{flat_map-append}
use Rattle.std.proofs.lemmas.Option.{same_Some}
use Rattle.std.specs.Arc.{arc_value}
use Rattle.std.specs.Option.{option_flatten}
use Rattle.std.specs.declared.snapshot.Snapshot.{Snapshot}
use Rattle.rawsocket.specs.Devices.{Reading}
use Rattle.connection.specs.Reader.{Start}
use Rattle.connection.specs.declared.reader.ReadEnd.{ReadEnd}
use Rattle.realm_inbox.specs.EndViews.{posted, poster_conn}
use Rattle.realm_inbox.specs.declared.act.Act.{Act}
use Rattle.realm_inbox.specs.declared.act.Act.TheVariants.{Join}
use Rattle.realm_inbox.specs.declared.ends.Poster.{Poster}
use Rattle.realm_inbox.specs.declared.joining.Joining.{Joining}
use Rattle.threaded_server.proofs.Places.{found_there, get_before_set}
use Rattle.threaded_server.specs.Posters.{AreOfSeat}
use Rattle.threaded_server.specs.Posts.{Say, posts_at, posts_between, posts_of, since}
use Rattle.broker_threads.specs.Streams.{GoesBy, IsServed, Offer, Reads, Sight, Stream, offer_of}
use Rattle.broker_threads.proofs.Lemmas.{went_on}
use Rattle.broker_threads.specs.Talks.{Passage, ReadsOn, StandsStill, passage, start_of}
use Rattle.broker_threads.specs.declared.closed.Closed.{Closed}
use Rattle.broker_threads.specs.declared.course.Course.{Course}
use Rattle.broker_threads.specs.declared.course.Course.TheVariants.{Untouched, NotOpened, OpenedAlone, Served}
use Rattle.threaded_server.specs.declared.over.Over.{Over}
use Rattle.threaded_server.specs.declared.over.Over.TheVariants as over
use Rattle.broker_threads.specs.declared.reader_thread.Ended.{Ended}
use Rattle.broker_threads.specs.declared.reader_thread.Reader.{Reader}
use Rattle.broker_threads.specs.declared.writer_thread.Written.{Written}
use Rattle.wamp_ids.specs.Numbers.{seat_of}

module _ {S : Type 0} where
  -- a poster that came back posted more, or nothing
  pub record Goes (given back : Poster S) : Type 0 where
    pub more : List (ℕ × Act S)
    pub posted : posted back ≡ posted given ++ more

  stays : (p : Poster S) → Goes p p
  stays p = record { more = []; posted = sym (append-nil (posted p)) }

  talked : {I : Type 0} (seen : I → Reading) (begun : Start) (joining : Joining S) (before now : Passage I S) (end : ReadEnd) → ReadsOn seen begun joining before now end ⊎ StandsStill before now
      → Goes before.poster now.poster
  talked seen begun joining before now end (inl h) =
      let of : Act S → ℕ × Act S = λ act. (poster_conn before.poster, act) in
      record { more = map of (Join joining ∷ []) ++ map of h.posted.acts; posted = ap (λ p. p.said) h.posted.posted ∙ append_assoc (posted before.poster) (map of (Join joining ∷ [])) (map of h.posted.acts) }
  talked seen begun joining before now end (inr h) = record { more = []; posted = ap (λ p. p.said) h.unposted ∙ sym (append-nil (posted before.poster)) }

  -- what one of another seat posted is nothing of this seat's
  between_others : (number : ℕ) (given back : Option (Poster S)) → ((p : Poster S) → given ≡ Some p → seat_of (poster_conn p) ≢ number) → posts_between number given back ≡ []
  between_others number None back other = refl
  between_others number (Some p) None other = refl
  between_others number (Some p) (Some q) other = ap (λ b. if b then since (posted p) (posted q) else []) (ne_eqb (seat_of (poster_conn p)) number (other p refl))

  between_own : (number : ℕ) (p q : Poster S) → seat_of (poster_conn p) ≡ number → (g : Goes p q) → posts_between number (Some p) (Some q) ≡ g.more
  between_own number p q own g =
      ap (λ b. if b then since (posted p) (posted q) else []) (eq-eqb (seat_of (poster_conn p)) number own) ∙ ap (since (posted p)) g.posted ∙ drop-append_seam (posted p) g.more

module _ {I O S : Type 0} (see : Sight I O) (offer : Offer) where
  -- a poster that a reader was given comes back
  pub record Back (posters : List (Option (Poster S))) (i : ℕ) (p : Poster S) : Type 0 where
    pub poster : Poster S
    pub at : slice_get posters i ≡ Some (Some poster)
    pub goes : Goes p poster

  served_there : (before : Stream I O S) (source : I) (back : List (Option (Poster S))) (end : ReadEnd) (written : Written O) (i : ℕ) (p : Poster S) → IsServed see offer before source back end written → slice_get before.posters i ≡ Some (Some p) → Back back i p
  served_there before source back end written i p h at = by_place (get_before_set before.posters h.session.realm i (Some h.poster) (Some h.left) (Some p) h.named at)
    where
      by_place : ((Some h.poster ≡ Some p) × (slice_get (set before.posters h.session.realm (Some h.left)) i ≡ Some (Some h.left))) ⊎ (slice_get (set before.posters h.session.realm (Some h.left)) i ≡ Some (Some p)) → Back back i p
      by_place (inl w) = record {
        poster = h.left;
        at = ap (λ l. slice_get l i) h.posters_are ∙ w.1;
        goes = subst (λ (x : Poster S). Goes x h.left) (same_Some h.poster p w.0) (talked see.reading (start_of h.session) h.talks.joining (passage h.opened_source h.poster) (passage source h.left) end (went_on see.reading (start_of h.session) h.talks.joining (passage h.opened_source h.poster) (passage source h.left) end h.talks.converses));
      }
      by_place (inr w) = record { poster = p; at = ap (λ l. slice_get l i) h.posters_are ∙ w; goes = stays p }

  back_there : (before : Stream I O S) (source : Closed I) (back : List (Option (Poster S))) (course : Course O) (i : ℕ) (p : Poster S) → GoesBy see offer before source back course → slice_get before.posters i ≡ Some (Some p) → Back back i p
  back_there before source back (Untouched sink) i p h at = record { poster = p; at = ap (λ l. slice_get l i) h.2 ∙ at; goes = stays p }
  back_there before source back (NotOpened sink fault) i p h at = record { poster = p; at = ap (λ l. slice_get l i) h.1 ∙ at; goes = stays p }
  back_there before source back (OpenedAlone sink) i p h at = record { poster = p; at = ap (λ l. slice_get l i) h.1 ∙ at; goes = stays p }
  back_there before source back (Served end written) i p h at = served_there before source.last.value back end written i p h at

  back_long : (before : Stream I O S) (source : Closed I) (back : List (Option (Poster S))) (course : Course O) → GoesBy see offer before source back course → length back ≡ length before.posters
  back_long before source back (Untouched sink) h = ap length h.2
  back_long before source back (NotOpened sink fault) h = ap length h.1
  back_long before source back (OpenedAlone sink) h = ap length h.1
  back_long before source back (Served end written) h = ap length h.posters_are ∙ length-set before.posters h.session.realm (Some h.left)

  -- the posters that come back say what was posted meanwhile, too
  back_say : (whole count number : ℕ) (said : ℕ → List (ℕ × Act S)) (before : Stream I O S) (source : Closed I) (back : List (Option (Poster S))) (course : Course O) → GoesBy see offer before source back course → AreOfSeat number before.posters → Say posted whole count said before.posters
      → Say posted whole count (λ i. said i ++ posts_between number (option_flatten (slice_get before.posters i)) (option_flatten (slice_get back i))) back
  back_say whole count number said before source back course h own s = record {
    long = back_long before source back course h ∙ s.long;
    each = λ i less.
        let p = s.each i less in
        let b = back_there before source back course i p.0 h p.1 in
        let meanwhile = ap (λ o. posts_between number (option_flatten o) (option_flatten (slice_get back i))) p.1 ∙ ap (λ o. posts_between number (Some p.0) (option_flatten o)) b.at ∙ between_own number p.0 b.poster (own i p.0 p.1) b.goes in
        (b.poster, b.at, b.goes.posted ∙ ap (λ l. l ++ b.goes.more) p.2 ∙ ap (λ l. said i ++ l) (sym meanwhile));
  }

module _ {I O S : Type 0} where
  -- with one stream more
  pub posts_on : (realm number : ℕ) (overs now : List (Over I O S)) (o : Over I O S) → now ≡ overs ++ o ∷ [] → posts_at realm number now ≡ posts_at realm number overs ++ posts_of realm number o
  posts_on realm number overs now o e = ap (posts_at realm number) e ∙ flat_map-append (posts_of realm number) overs (o ∷ []) ∙ ap (λ l. posts_at realm number overs ++ l) (append-nil (posts_of realm number o))

  -- that posted nothing there
  pub posts_still : (realm number : ℕ) (overs now : List (Over I O S)) (o : Over I O S) → now ≡ overs ++ o ∷ [] → posts_of realm number o ≡ [] → posts_at realm number now ≡ posts_at realm number overs
  posts_still realm number overs now o e none = posts_on realm number overs now o e ∙ ap (λ l. posts_at realm number overs ++ l) none ∙ append-nil (posts_at realm number overs)

  -- a stream that had a seat posted there alone
  pub posts_elsewhere : (number other realm : ℕ) (overs now : List (Over I O S)) (began : Snapshot (Reader I O S)) (left : Snapshot (Ended I O S)) → now ≡ overs ++ over.Seated began left ∷ [] → AreOfSeat number began.value.posters.items → other ≢ number → posts_at realm other now ≡ posts_at realm other overs
  posts_elsewhere number other realm overs now began left e own apart =
      let there = slice_get began.value.posters.items realm in
      posts_still realm other overs now (over.Seated began left) e
      (between_others other (option_flatten there) (option_flatten (slice_get left.value.posters.items realm)) (λ p f same. apart (sym same ∙ own realm p (found_there there p f))))

module _ {I O S : Type 0} (see : Sight I O) where
  pub posters_say : (whole count number : ℕ) (overs now : List (Over I O S)) (began : Snapshot (Reader I O S)) (left : Snapshot (Ended I O S)) (ended : Ended I O S) → now ≡ overs ++ over.Seated began left ∷ [] → left.value ≡ ended → Reads see began.value ended → AreOfSeat number began.value.posters.items
      → Say posted whole count (λ i. posts_at i number overs) began.value.posters.items → Say posted whole count (λ i. posts_at i number now) ended.posters.items
  posters_say whole count number overs now began left ended e same reads own s =
      let reader = began.value in
      let b = back_say see (offer_of (arc_value reader.plan)) whole count number (λ i. posts_at i number overs) _ ended.source ended.posters.items ended.course reads own s in
      record {
        long = b.long;
        each = λ i less.
            let p = b.each i less in
            let here : posts_of i number (over.Seated began left) ≡ posts_between number (option_flatten (slice_get reader.posters.items i)) (option_flatten (slice_get ended.posters.items i)) = ap (λ (x : Ended I O S). posts_between number (option_flatten (slice_get reader.posters.items i)) (option_flatten (slice_get x.posters.items i))) same in
            (p.0, p.1, p.2 ∙ ap (λ l. posts_at i number overs ++ l) (sym here) ∙ sym (posts_on i number overs now (over.Seated began left) e));
      }
