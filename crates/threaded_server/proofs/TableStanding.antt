-- What stands of the table of connections, while these come and go.
use Rattle.std.proofs.Common.{◌≡◌, ◌≢◌, ◌⊎◌, ◌<◌, ◌+◌, ◌-◌, ℕ, List, [], ◌∷◌, ◌++◌, Option, None, Some, All, IfSome, length, length-append, length-set, option_map, replicate, set, slice_get, refl, sym, ap, ◌∙◌, subst, arith, inl, inr}
use Rattle.std.proofs.Math.Logic.{∥∥₁_elim, ∥∥₁_map}
use Rattle.std.proofs.lemmas.List.{length-map, map-set}
use Rattle.std.proofs.lemmas.List.Elements.{All-nil, All-push, All-set}
use Rattle.std.proofs.lemmas.Option.{get_or_from_slice_get, none-some, same_Some, slice_get-get_or, slice_get_within}
use Rattle.std.specs.Arc.{arc_value}
use Rattle.std.specs.Option.{ForSome, option_flatten}
use Rattle.std.specs.declared.snapshot.Snapshot.{Snapshot}
use Rattle.realm_inbox.specs.EndViews.{posted}
use Rattle.realm_inbox.specs.Ends.{Place}
use Rattle.realm_inbox.specs.declared.act.Act.{Act}
use Rattle.realm_inbox.specs.declared.ends.Poster.{Poster}
use Rattle.threaded_server.proofs.Places.{get_last, get_set, map_get}
use Rattle.threaded_server.proofs.PostSteps.{posters_say, posts_elsewhere, posts_still}
use Rattle.threaded_server.proofs.PosterSteps.{gains_stand, none_stand, relabelled_at, relabelled_own, said_relabelled, stand_on, stand_put, stand_taken}
use Rattle.threaded_server.proofs.RealmSteps.{at_longer, back_at, back_of_seat, more_longer, one_kept, overs_longer, seat_kept, seen_at_home, takes_longer}
use Rattle.threaded_server.proofs.DoorSteps.{of_inboxes}
use Rattle.threaded_server.proofs.PostersBack.{at_traced, say_traced, seat_traced}
use Rattle.threaded_server.proofs.StoppingLemmas.{doors_long, left_covers}
use Rattle.threaded_server.proofs.Saying.{all_said, none_said, one_said, said_in, seat_back, seat_left, seat_taken, swapped}
use Rattle.broker_threads.specs.Courses.{seen_of}
use Rattle.threaded_server.specs.Overs.{AddsUntouched}
use Rattle.threaded_server.specs.Posters.{AllGain, AreAt, AreOf, AreOfSeat, IsTaken, PutsBack, Stand, lists_at, traces}
use Rattle.threaded_server.specs.Stopping.{AllCover, AllSee, AreDoorsOf, AreOfInboxes, DoorView, inboxes_in}
use Rattle.threaded_server.specs.Posts.{AllSay, AreIn, Say, posts_at, posts_of}
use Rattle.threaded_server.specs.Realms.{IsAtHome, Shown, TakesIn, inbox_in, places_of, with_seen}
use Rattle.threaded_server.specs.Roster.{Leaves}
use Rattle.broker_threads.specs.Streams.{Reads, Sight, offer_of}
use Rattle.threaded_server.specs.Ties.{IsBegunBy, OverKept}
use Rattle.threaded_server.specs.declared.entry.Connection.{Connection}
use Rattle.threaded_server.specs.declared.over.Over.{Over}
use Rattle.threaded_server.specs.declared.over.Over.TheVariants.{Seated, Untouched}
use Rattle.broker_threads.specs.declared.plan.Plan.{Plan}
use Rattle.broker_threads.specs.declared.reader_thread.Ended.{Ended}
use Rattle.broker_threads.specs.declared.reader_thread.Reader.{Reader}
use Rattle.broker_threads.specs.declared.writer_thread.SeenHistory.{SeenHistory}
use Rattle.wamp_ids.specs.Numbers.{seat_of}

-- one of which all are
all_at : {A : Type 0} (P : A → Type 0) (xs : List A) (i : ℕ) (a : A) → slice_get xs i ≡ Some a → All P xs → P a
all_at P xs i a e h = subst P (get_or_from_slice_get xs i a a e) (h i a (slice_get_within xs i a e))

module _ {S : Type 0} where
  takes_began : (plan : Plan) (realms after : List (Shown S)) (seen : Option SeenHistory) → TakesIn realms seen after → All (λ r. IsBegunBy plan r) realms → All (λ r. IsBegunBy plan r) after
  takes_began plan realms after None e h = subst (λ (l : List (Shown S)). All (λ r. IsBegunBy plan r) l) (sym e) h
  takes_began plan realms after (Some seen) k h =
      subst (λ (l : List (Shown S)). All (λ r. IsBegunBy plan r) l) (sym k.kept) (All-set (λ r. IsBegunBy plan r) realms seen.realm _ (all_at (λ r. IsBegunBy plan r) realms seen.realm k.realm k.at h) h)

  -- posters that were taken
  pub taken_at : (places : List (Place S)) (conn : ℕ) (slots now : List (Option (List (Option (Poster S))))) (posters : List (Option (Poster S))) → IsTaken conn slots posters now → Stand places slots → AreAt places posters × AreOfSeat (seat_of conn - 1 + 1) posters
  taken_at places conn slots now posters t h =
      let number : seat_of conn ≡ seat_of conn - 1 + 1 = omega arith in
      (relabelled_at places conn t.were posters t.relabels (h (seat_of conn - 1) t.were t.there).0, subst (λ (n : ℕ). AreOfSeat n posters) number (relabelled_own conn t.were posters t.relabels))

  pub seat_asks : (places : List (Place S)) (conn : ℕ) (slots : List (Option (List (Option (Poster S))))) → Stand places slots → ForSome (slice_get slots (seat_of conn - 1)) (λ slot. ForSome slot (λ posters. AreOfSeat (seat_of conn) posters))
  seat_asks places conn slots h slot at posters is =
      let number : seat_of conn - 1 + 1 ≡ seat_of conn = omega arith in
      subst (λ (n : ℕ). AreOfSeat n posters) number (h (seat_of conn - 1) posters (at ∙ ap Some is)).1

  takes_long : (realms after : List (Shown S)) (seen : Option SeenHistory) → TakesIn realms seen after → length after ≡ length realms
  takes_long realms after None e = ap length e
  takes_long realms after (Some seen) k = ap length k.kept ∙ length-set realms seen.realm (with_seen k.realm seen.history)

module _ {I O S : Type 0} where
  -- nobody is at a seat
  nobody_at : (entries : List (Option (Connection I O S))) → length entries ≡ 256 → All (λ slot. slot ≡ None) entries → (k : ℕ) → k < 256 → slice_get (lists_at entries) k ≡ Some None
  nobody_at entries long none k less =
      let within = subst (λ (n : ℕ). k < n) (sym long) less in
      map_get (option_map (λ (entry : Connection I O S). entry.began.value.posters.items)) entries k None (slice_get-get_or entries k None within ∙ ap Some (none k None within))

  -- what the posters say of the seats
  abbrev pub Said : Plan → List (Shown S) → List (Option (List (Option (Poster S)))) → List (Option (Connection I O S)) → List (Over I O S) → Type 0
  Said plan realms slots entries overs = AllSay posted (length plan.realms.items) (length realms) (λ realm number. posts_at realm number overs) slots (lists_at entries)

  -- posters stand where they should, also those that readers were given, and say what was posted; each realm keeps what was seen of its history; and realms have the plan's began
  pub record Standing (plan : Plan) (realms : List (Shown S)) (slots : List (Option (List (Option (Poster S))))) (entries : List (Option (Connection I O S))) (overs : List (Over I O S)) : Type 0 where
    pub free : Stand (places_of realms) slots
    pub served : Stand (places_of realms) (lists_at entries)
    pub say : ∥ Said plan realms slots entries overs ∥₁
    pub kept : ∥ All (λ o. OverKept realms o) overs ∥₁
    pub began : All (λ r. IsBegunBy plan r) realms

  -- where nobody is at a seat its posters are there
  pub posters_there : (plan : Plan) (realms : List (Shown S)) (conn : ℕ) (slots : List (Option (List (Option (Poster S))))) (entries : List (Option (Connection I O S))) (overs : List (Over I O S)) → slice_get entries (seat_of conn - 1) ≡ Some None
      → ∥ Said plan realms slots entries overs ∥₁ → option_flatten (slice_get slots (seat_of conn - 1)) ≢ None
  posters_there plan realms conn slots entries overs free say e = ∥∥₁_elim say (λ x y. absurd x) (λ s. by_table (s (seat_of conn - 1) (omega arith)))
    where
      said : ℕ → ℕ → List (ℕ × Act S)
      said = λ realm number. posts_at realm number overs

      by_table : AreIn posted (length plan.realms.items) (length realms) (seat_of conn - 1) said slots (lists_at entries) ⊎ AreIn posted (length plan.realms.items) (length realms) (seat_of conn - 1) said (lists_at entries) slots → ⊥
      by_table (inl a) = none-some a.posters (sym e ∙ ap option_flatten a.at)
      by_table (inr a) = none-some a.posters (same_Some None (Some a.posters) (sym (map_get (option_map (λ (entry : Connection I O S). entry.began.value.posters.items)) entries (seat_of conn - 1) None free) ∙ a.at))

  -- nothing yet
  pub none_yet : (plan : Plan) (realms : List (Shown S)) (slots : List (Option (List (Option (Poster S))))) (entries : List (Option (Connection I O S))) (overs : List (Over I O S)) → realms ≡ []
      → slots ≡ replicate 256 (Some (replicate (length plan.realms.items) None)) → length entries ≡ 256 → All (λ slot. slot ≡ None) entries → overs ≡ [] → Standing plan realms slots entries overs
  none_yet plan realms slots entries overs e plain long free f =
      let said = λ (realm number : ℕ). posts_at realm number overs in
      record {
        free = none_stand (length plan.realms.items) slots (places_of realms) plain;
        served = λ k posters at. absurd (none-some posters (same_Some None (Some posters) (sym (nobody_at entries long free k (subst (λ (n : ℕ). k < n) (length-map entries (option_map (λ (x : Connection I O S). x.began.value.posters.items)) ∙ long) (slice_get_within (lists_at entries) k (Some posters) at))) ∙ at)));
        say = ∣ subst (λ (l : List (Option (List (Option (Poster S))))). AllSay posted (length plan.realms.items) (length realms) said l (lists_at entries)) (sym plain)
            (subst (λ (n : ℕ). AllSay posted (length plan.realms.items) n said (replicate 256 (Some (replicate (length plan.realms.items) None))) (lists_at entries)) (sym (ap length e)) (none_said posted (length plan.realms.items) said (lists_at entries) (nobody_at entries long free))) ∣₁;
        kept = ∣ subst (λ (l : List (Over I O S)). All (λ o. OverKept realms o) l) (sym f) (All-nil (λ o. OverKept realms o)) ∣₁;
        began = subst (λ (l : List (Shown S)). All (λ r. IsBegunBy plan r) l) (sym e) (All-nil (λ r. IsBegunBy plan r));
      }

  -- the realms are the same
  pub still_standing : (plan : Plan) (realms after : List (Shown S)) (slots : List (Option (List (Option (Poster S))))) (entries : List (Option (Connection I O S))) (overs : List (Over I O S)) → after ≡ realms → Standing plan realms slots entries overs
      → Standing plan after slots entries overs
  still_standing plan realms after slots entries overs e h = subst (λ (l : List (Shown S)). Standing plan l slots entries overs) (sym e) h

  -- nothing was taken
  pub still_free : (plan : Plan) (realms : List (Shown S)) (slots now : List (Option (List (Option (Poster S))))) (entries : List (Option (Connection I O S))) (overs : List (Over I O S)) → now ≡ slots → Standing plan realms slots entries overs
      → Standing plan realms now entries overs
  still_free plan realms slots now entries overs e h = subst (λ l. Standing plan realms l entries overs) (sym e) h

  -- one realm more
  pub one_realm : (plan : Plan) (realms after : List (Shown S)) (realm : Shown S) (slots now : List (Option (List (Option (Poster S))))) (entries : List (Option (Connection I O S))) (overs : List (Over I O S)) → after ≡ realms ++ realm ∷ []
      → length realms < length plan.realms.items → length entries ≡ 256 → All (λ slot. slot ≡ None) entries → overs ≡ [] → IsBegunBy plan realm → AllGain (inbox_in realm) (length realms) slots now
      → Standing plan realms slots entries overs → Standing plan after now entries overs
  one_realm plan realms after realm slots now entries overs e room long nobody unlent began gains h =
      let longer = more_longer realms after (realm ∷ []) e in
      let here : slice_get (places_of after) (length realms) ≡ Some (inbox_in realm) = map_get inbox_in after (length realms) realm (ap (λ l. slice_get l (length realms)) e ∙ get_last realms realm) in
      let said = λ (i number : ℕ). posts_at i number overs in
      let count : length after ≡ length realms + 1 = ap length e ∙ length-append realms (realm ∷ []) in
      record {
        free = gains_stand (places_of after) (inbox_in realm) (length realms) slots now here gains (stand_on realms after slots longer h.free);
        served = stand_on realms after (lists_at entries) longer h.served;
        say = ∥∥₁_map h.say (λ s. subst (λ (n : ℕ). AllSay posted (length plan.realms.items) n said now (lists_at entries)) (sym count)
            (one_said posted (length plan.realms.items) (length realms) said slots now (lists_at entries) room (nobody_at entries long nobody) (λ number. ap (posts_at (length realms) number) unlent) (λ k less. let g = gains.seats k less in (g.poster, g.posted, g.slot)) s));
        kept = ∥∥₁_map h.kept (overs_longer realms after overs longer);
        began = subst (λ (l : List (Shown S)). All (λ r. IsBegunBy plan r) l) (sym e) (All-push (λ r. IsBegunBy plan r) realms realm h.began began);
      }

  -- a connection takes its seat
  pub seat_standing : (plan next : Snapshot Plan) (realms : List (Shown S)) (conn : ℕ) (posters : List (Option (Poster S))) (slots now : List (Option (List (Option (Poster S))))) (entries seated : List (Option (Connection I O S))) (overs same : List (Over I O S)) (place : ℕ)
      (entry : Connection I O S) → IsTaken conn slots posters now → place ≡ seat_of conn - 1 → entry.began.value.posters.items ≡ posters → next ≡ plan → seated ≡ set entries place (Some entry) → same ≡ overs
      → Standing plan.value realms slots entries overs → Standing next.value realms now seated same
  seat_standing plan next realms conn posters slots now entries seated overs same place entry t at is e g k h =
      let number = seat_of conn - 1 in
      let with_entry : lists_at seated ≡ set (lists_at entries) number (Some posters) =
      ap lists_at g ∙ map-set (option_map (λ (x : Connection I O S). x.began.value.posters.items)) entries place (Some entry) ∙ ap (λ n. set (lists_at entries) n (Some entry.began.value.posters.items)) at ∙ ap (λ l. set (lists_at entries) number (Some l)) is in
      let stood = taken_at (places_of realms) conn slots now posters t h.free in
      let whole = length plan.value.realms.items in
      record {
        free = subst (λ l. Stand (places_of realms) l) (sym t.left) (stand_taken (places_of realms) slots number h.free);
        served = subst (λ l. Stand (places_of realms) l) (sym with_entry) (stand_put (places_of realms) (lists_at entries) number posters stood.0 stood.1 h.served);
        say = subst (λ (p : Snapshot Plan). ∥ Said p.value realms now seated same ∥₁) (sym e) (∥∥₁_map h.say (λ s. subst (λ (o : List (Over I O S)). Said plan.value realms now seated o) (sym k)
            (subst (λ l. AllSay posted whole (length realms) (λ realm number. posts_at realm number overs) now l) (sym with_entry)
            (subst (λ l. AllSay posted whole (length realms) (λ realm number. posts_at realm number overs) l (set (lists_at entries) number (Some posters))) (sym t.left)
            (seat_taken posted whole (length realms) number (λ realm number. posts_at realm number overs) slots (lists_at entries) t.were posters t.there (said_relabelled conn whole (length realms) (λ realm. posts_at realm (number + 1) overs) t.were posters t.relabels) s)))));
        kept = subst (λ (l : List (Over I O S)). ∥ All (λ o. OverKept realms o) l ∥₁) (sym k) h.kept;
        began = subst (λ (p : Snapshot Plan). All (λ r. IsBegunBy p.value r) realms) (sym e) h.began;
      }

  -- or doesn't: its posters are put where they were
  pub back_standing : (plan : Plan) (realms : List (Shown S)) (conn : ℕ) (posters back : List (Option (Poster S))) (slots between now : List (Option (List (Option (Poster S))))) (entries : List (Option (Connection I O S))) (overs : List (Over I O S)) (place : ℕ)
      → IsTaken conn slots posters between → place ≡ seat_of conn - 1 → back ≡ posters → now ≡ set between place (Some back) → Standing plan realms slots entries overs → Standing plan realms now entries overs
  back_standing plan realms conn posters back slots between now entries overs place t at is e h =
      let number = seat_of conn - 1 in
      let put : now ≡ set (set slots number None) number (Some posters) = e ∙ ap (λ l. set l place (Some back)) t.left ∙ ap (λ n. set (set slots number None) n (Some back)) at ∙ ap (λ l. set (set slots number None) number (Some l)) is in
      let stood = taken_at (places_of realms) conn slots between posters t h.free in
      let said = λ (realm number : ℕ). posts_at realm number overs in
      let whole = length plan.realms.items in
      record {
        free = subst (λ l. Stand (places_of realms) l) (sym put) (stand_put (places_of realms) (set slots number None) number posters stood.0 stood.1 (stand_taken (places_of realms) slots number h.free));
        served = h.served;
        say = ∥∥₁_map h.say (λ s. subst (λ l. AllSay posted whole (length realms) said l (lists_at entries)) (sym put)
            (seat_back posted whole (length realms) number said said slots (lists_at entries) t.were posters t.there (λ i j other. refl) (said_relabelled conn whole (length realms) (λ realm. posts_at realm (number + 1) overs) t.were posters t.relabels) s));
        kept = h.kept;
        began = h.began;
      }

  -- a stream goes over, of which nothing has to be kept
  pub over_standing : (plan next : Snapshot Plan) (realms : List (Shown S)) (slots : List (Option (List (Option (Poster S))))) (entries same : List (Option (Connection I O S))) (overs now : List (Over I O S)) (o : Over I O S) → next ≡ plan → same ≡ entries
      → now ≡ overs ++ o ∷ [] → OverKept realms o → ((realm number : ℕ) → posts_of realm number o ≡ []) → Standing plan.value realms slots entries overs → Standing next.value realms slots same now
  over_standing plan next realms slots entries same overs now o e f g kept nothing h = record {
    free = h.free;
    served = subst (λ (l : List (Option (Connection I O S))). Stand (places_of realms) (lists_at l)) (sym f) h.served;
    say = subst (λ (p : Snapshot Plan). ∥ Said p.value realms slots same now ∥₁) (sym e) (subst (λ (l : List (Option (Connection I O S))). ∥ Said plan.value realms slots l now ∥₁) (sym f)
        (∥∥₁_map h.say (all_said posted (length plan.value.realms.items) (length realms) (λ realm number. posts_at realm number overs) (λ realm number. posts_at realm number now) slots (lists_at entries) (λ i number. posts_still i number overs now o g (nothing i number)))));
    kept = ∥∥₁_map h.kept (one_kept realms overs now o g kept);
    began = subst (λ (p : Snapshot Plan). All (λ r. IsBegunBy p.value r) realms) (sym e) h.began;
  }

  -- as one that is let go of
  pub untouched_standing : (plan next : Snapshot Plan) (realms : List (Shown S)) (slots : List (Option (List (Option (Poster S))))) (entries same : List (Option (Connection I O S))) (overs now : List (Over I O S)) (halves : I × O) → next ≡ plan → same ≡ entries
      → AddsUntouched overs now halves → Standing plan.value realms slots entries overs → Standing next.value realms slots same now
  untouched_standing plan next realms slots entries same overs now halves e f a h = over_standing plan next realms slots entries same overs now (Untouched a.shown) e f a.added tt (λ realm number. refl) h

  -- nobody was at a place that nobody leaves
  pub nobody_left : (plan next : Snapshot Plan) (realms : List (Shown S)) (slots : List (Option (List (Option (Poster S))))) (entries left : List (Option (Connection I O S))) (overs same : List (Over I O S)) → next ≡ plan → left ≡ entries
      → same ≡ overs → Standing plan.value realms slots entries overs → Standing next.value realms slots left same
  nobody_left plan next realms slots entries left overs same e f g h =
      subst (λ (p : Snapshot Plan). Standing p.value realms slots left same) (sym e) (subst (λ (l : List (Option (Connection I O S))). Standing plan.value realms slots l same) (sym f) (subst (λ (o : List (Over I O S)). Standing plan.value realms slots entries o) (sym g) h))

module _ {I O S : Type 0} (see : Sight I O) where
  -- a reader has given back what it should: what its writer saw
  pub reader_left : (realms : List (Shown S)) (reader : Reader I O S) (ended : Ended I O S) → Reads see reader ended → AreAt (places_of realms) reader.posters.items → IfSome (seen_of ended.course) (λ (s : SeenHistory). IsAtHome realms s)
  reader_left realms reader ended reads at = seen_at_home see (offer_of (arc_value reader.plan)) realms _ ended.source ended.posters.items ended.course reads at

  -- and posters of the doors' inboxes
  pub reader_doors : (realms : List (Shown S)) (doors : List (DoorView S)) (reader : Reader I O S) (ended : Ended I O S) → AreDoorsOf realms doors → Reads see reader ended → AreAt (places_of realms) reader.posters.items → AreOfInboxes (inboxes_in doors) (traces ended.posters.items)
  reader_doors realms doors reader ended same reads at =
      of_inboxes (inboxes_in doors) (places_of realms) ended.posters.items same (back_at see (offer_of (arc_value reader.plan)) (places_of realms) _ ended.source ended.posters.items ended.course reads at)

  -- and its posters
  posters_back : (realms after : List (Shown S)) (number : ℕ) (reader : Reader I O S) (ended : Ended I O S) → TakesIn realms (seen_of ended.course) after → Reads see reader ended → AreAt (places_of realms) reader.posters.items → AreOfSeat number reader.posters.items
      → AreAt (places_of after) ended.posters.items × AreOfSeat number ended.posters.items
  posters_back realms after number reader ended t reads at own =
      let offer = offer_of (arc_value reader.plan) in (
        at_longer realms after ended.posters.items (takes_longer realms after (seen_of ended.course) t) (back_at see offer (places_of realms) _ ended.source ended.posters.items ended.course reads at),
        back_of_seat see offer number _ ended.source ended.posters.items ended.course reads own,
      )

  -- a connection's place, where one leaves it
  pub entry_stood : (places : List (Place S)) (entries : List (Option (Connection I O S))) (place conn : ℕ) (ended : Ended I O S) (overs now : List (Over I O S)) → (l : Leaves see (slice_get entries place) conn ended overs now) → Stand places (lists_at entries)
      → AreAt places l.entry.began.value.posters.items × AreOfSeat (place + 1) l.entry.began.value.posters.items
  entry_stood places entries place conn ended overs now l h = h place l.entry.began.value.posters.items (listed entries place l.entry l.held)
    where
      listed : (xs : List (Option (Connection I O S))) (k : ℕ) (entry : Connection I O S) → slice_get xs k ≡ Some (Some entry) → slice_get (lists_at xs) k ≡ Some (Some entry.began.value.posters.items)
      listed xs k entry e = map_get (option_map (λ (x : Connection I O S). x.began.value.posters.items)) xs k (Some entry) e

  -- a connection leaves, and what its reader gave back was taken in
  pub left_standing : (plan next : Snapshot Plan) (realms after : List (Shown S)) (slots put : List (Option (List (Option (Poster S))))) (entries left : List (Option (Connection I O S))) (overs now : List (Over I O S)) (place conn : ℕ) (ended : Ended I O S) → next ≡ plan → left ≡ set entries place None
      → (l : Leaves see (slice_get entries place) conn ended overs now) → AreOf l.entry.began.value.conn l.entry.began.value.posters.items → TakesIn realms (seen_of ended.course) after → PutsBack place ended.posters.items slots put → Standing plan.value realms slots entries overs → Standing next.value after put left now
  left_standing plan next realms after slots put entries left overs now place conn ended e f l own t g h =
      let longer = takes_longer realms after (seen_of ended.course) t in
      let began = l.entry.began in
      let were = began.value.posters.items in
      let whole = length plan.value.realms.items in
      let said = λ (realm number : ℕ). posts_at realm number overs in
      let says = λ (realm number : ℕ). posts_at realm number now in
      let held : slice_get (lists_at entries) place ≡ Some (Some were) = map_get (option_map (λ (x : Connection I O S). x.began.value.posters.items)) entries place (Some l.entry) l.held in
      let without : lists_at left ≡ set (lists_at entries) place None = ap lists_at f ∙ map-set (option_map (λ (x : Connection I O S). x.began.value.posters.items)) entries place None in
      let stood = entry_stood (places_of realms) entries place conn ended overs now l h.served in
      let back = posters_back realms after (place + 1) began.value ended t l.reads stood.0 stood.1 in
      let these = g.back in
      let at_these = at_traced (places_of after) ended.posters.items these g.same back.0 in
      let of_these = seat_traced (place + 1) ended.posters.items these g.same back.1 in
      record {
        free = subst (λ l. Stand (places_of after) l) (sym g.put) (stand_put (places_of after) slots place these at_these of_these (stand_on realms after slots longer h.free));
        served = subst (λ l. Stand (places_of after) l) (sym without) (stand_taken (places_of after) (lists_at entries) place (stand_on realms after (lists_at entries) longer h.served));
        say = subst (λ (p : Snapshot Plan). ∥ Said p.value after put left now ∥₁) (sym e) (∥∥₁_map h.say (λ s. subst (λ l. AllSay posted whole (length after) says put l) (sym without) (subst (λ l. AllSay posted whole (length after) says l (set (lists_at entries) place None)) (sym g.put)
            (subst (λ (n : ℕ). AllSay posted whole n says (set slots place (Some these)) (set (lists_at entries) place None)) (sym (takes_long realms after (seen_of ended.course) t))
            (seat_left posted whole (length realms) place said says slots (lists_at entries) were these held (λ i j other. posts_elsewhere (place + 1) (j + 1) i overs now began l.left l.over stood.1 (λ same. other (omega (arith, same))))
            (λ w. say_traced whole (length realms) (λ i. says i (place + 1)) ended.posters.items these g.same (posters_say see whole (length realms) (place + 1) overs now began l.left ended l.over l.left_is l.reads stood.1 w)) s)))));
        kept = ∥∥₁_map h.kept (seat_kept see realms after overs now began l.left ended l.over l.left_is l.reads stood.0 own t);
        began = subst (λ (p : Snapshot Plan). All (λ r. IsBegunBy p.value r) after) (sym e) (takes_began plan.value realms after (seen_of ended.course) t h.began);
      }

  -- a reader for which there was no thread gave back what it had
  pub ended_standing : (plan next : Snapshot Plan) (realms after : List (Shown S)) (conn : ℕ) (posters : List (Option (Poster S))) (slots between put : List (Option (List (Option (Poster S))))) (entries same : List (Option (Connection I O S))) (overs now : List (Over I O S)) (place : ℕ)
      (began : Snapshot (Reader I O S)) (left : Snapshot (Ended I O S)) (ended : Ended I O S) (over : Over I O S) → IsTaken conn slots posters between → place ≡ seat_of conn - 1 → began.value.conn ≡ conn → began.value.posters.items ≡ posters → next ≡ plan → same ≡ entries → now ≡ overs ++ over ∷ []
      → over ≡ Seated began left → left.value ≡ ended → Reads see began.value ended → TakesIn realms (seen_of ended.course) after → PutsBack place ended.posters.items between put → Standing plan.value realms slots entries overs → Standing next.value after put same now
  ended_standing plan next realms after conn posters slots between put entries same overs now place began left ended over taken at number_is is e f g seated shows reads t p h =
      let longer = takes_longer realms after (seen_of ended.course) t in
      let number = seat_of conn - 1 in
      let more : now ≡ overs ++ Seated began left ∷ [] = g ∙ ap (λ o. overs ++ o ∷ []) seated in
      let whole = length plan.value.realms.items in
      let said = λ (realm number : ℕ). posts_at realm number overs in
      let says = λ (realm number : ℕ). posts_at realm number now in
      let ends : seat_of conn ≡ number + 1 = omega arith in
      let mine = taken_at (places_of realms) conn slots between posters taken h.free in
      let home = subst (λ l. AreAt (places_of realms) l) (sym is) mine.0 in
      let own = subst (λ l. AreOfSeat (number + 1) l) (sym is) mine.1 in
      let of = subst (λ (n : ℕ). AreOf n began.value.posters.items) (sym number_is) (subst (λ l. AreOf conn l) (sym is) taken.relabels.own) in
      let back = posters_back realms after (number + 1) began.value ended t reads home own in
      let these = p.back in
      let at_these = at_traced (places_of after) ended.posters.items these p.same back.0 in
      let of_these = seat_traced (number + 1) ended.posters.items these p.same back.1 in
      let put_is : put ≡ set (set slots number None) number (Some these) = p.put ∙ ap (λ l. set l place (Some these)) taken.left ∙ ap (λ n. set (set slots number None) n (Some these)) at in
      record {
        free = subst (λ l. Stand (places_of after) l) (sym put_is) (stand_put (places_of after) (set slots number None) number these at_these of_these (stand_taken (places_of after) slots number (stand_on realms after slots longer h.free)));
        served = subst (λ (l : List (Option (Connection I O S))). Stand (places_of after) (lists_at l)) (sym f) (stand_on realms after (lists_at entries) longer h.served);
        say = subst (λ (p : Snapshot Plan). ∥ Said p.value after put same now ∥₁) (sym e) (∥∥₁_map h.say (λ s. subst (λ (l : List (Option (Connection I O S))). AllSay posted whole (length after) says put (lists_at l)) (sym f) (subst (λ l. AllSay posted whole (length after) says l (lists_at entries)) (sym put_is)
            (subst (λ (n : ℕ). AllSay posted whole n says (set (set slots number None) number (Some these)) (lists_at entries)) (sym (takes_long realms after (seen_of ended.course) t))
            (seat_back posted whole (length realms) number said says slots (lists_at entries) taken.were these taken.there (λ i j other. posts_elsewhere (number + 1) (j + 1) i overs now began left more own (λ same. other (omega (arith, same))))
            (λ w. say_traced whole (length realms) (λ i. says i (number + 1)) ended.posters.items these p.same (posters_say see whole (length realms) (number + 1) overs now began left ended more shows reads own (subst (λ l. Say posted whole (length realms) (λ i. posts_at i (number + 1) overs) l) (sym is) (said_relabelled conn whole (length realms) (λ i. posts_at i (number + 1) overs) taken.were posters taken.relabels w)))) s)))));
        kept = ∥∥₁_map h.kept (seat_kept see realms after overs now began left ended more shows reads home of t);
        began = subst (λ (p : Snapshot Plan). All (λ r. IsBegunBy p.value r) after) (sym e) (takes_began plan.value realms after (seen_of ended.course) t h.began);
      }

  -- the doors were shown the posters of a connection that leaves
  pub left_shown : (plan next : Snapshot Plan) (realms after : List (Shown S)) (slots put : List (Option (List (Option (Poster S))))) (entries left : List (Option (Connection I O S))) (overs now : List (Over I O S)) (place conn : ℕ) (ended : Ended I O S) (before doors : List (DoorView S)) → length entries ≡ 256
      → (l : Leaves see (slice_get entries place) conn ended overs now) → PutsBack place ended.posters.items slots put → Standing plan.value realms slots entries overs → Standing next.value after put left now → AllSee (traces ended.posters.items) before doors → AreDoorsOf after doors
      → ∥ AllCover overs before ∥₁ → ∥ AllCover now doors ∥₁
  left_shown plan next realms after slots put entries left overs now place conn ended before doors long l p h s saw same cover =
      ∥∥₁_elim h.say squash₁ (λ says.
      let within : place < 256 = subst (λ (n : ℕ). place < n) long (slice_get_within entries place (Some l.entry) l.held) in
      let held = map_get (option_map (λ (x : Connection I O S). x.began.value.posters.items)) entries place (Some l.entry) l.held in
      let none = (said_in posted (length plan.value.realms.items) (length realms) place (λ realm number. posts_at realm number overs) (lists_at entries) slots l.entry.began.value.posters.items held (swapped posted (length plan.value.realms.items) (length realms) place (λ realm number. posts_at realm number overs) slots (lists_at entries) (says place within))).0 in
      let at : slice_get put place ≡ Some (Some p.back) = ap (λ x. slice_get x place) p.put ∙ get_set slots place None (Some p.back) none in
      let stood = entry_stood (places_of realms) entries place conn ended overs now l h.served in
      left_covers (length next.value.realms.items) (length after) place overs now ended.posters.items p.back put (lists_at left) before doors within (doors_long after doors same) saw p.same at (s.free place p.back at).1 s.say
      (λ i j other. posts_elsewhere (place + 1) (j + 1) i overs now l.entry.began l.left l.over stood.1 (λ same. other (omega (arith, same)))) cover)

module _ {I O S : Type 0} where
  -- or those of a reader for which there was no thread
  pub ended_shown : (next : Snapshot Plan) (realms after : List (Shown S)) (conn : ℕ) (posters : List (Option (Poster S))) (slots between put : List (Option (List (Option (Poster S))))) (same : List (Option (Connection I O S))) (overs now : List (Over I O S)) (place : ℕ)
      (began : Snapshot (Reader I O S)) (left : Snapshot (Ended I O S)) (ended : Ended I O S) (over : Over I O S) (before doors : List (DoorView S)) → IsTaken conn slots posters between → place ≡ seat_of conn - 1 → began.value.posters.items ≡ posters → now ≡ overs ++ over ∷ []
      → over ≡ Seated began left → PutsBack place ended.posters.items between put → Stand (places_of realms) slots → Standing next.value after put same now → AllSee (traces ended.posters.items) before doors → AreDoorsOf after doors → ∥ AllCover overs before ∥₁ → ∥ AllCover now doors ∥₁
  ended_shown next realms after conn posters slots between put same overs now place began left ended over before doors taken at is g seated p stands s saw alike cover =
      let number = seat_of conn - 1 in
      let more : now ≡ overs ++ Seated began left ∷ [] = g ∙ ap (λ o. overs ++ o ∷ []) seated in
      let within : place < 256 = omega (arith, at) in
      let none : slice_get between place ≡ Some None = ap (λ l. slice_get l place) taken.left ∙ ap (λ n. slice_get (set slots number None) n) at ∙ get_set slots number (Some taken.were) None taken.there in
      let there : slice_get put place ≡ Some (Some p.back) = ap (λ l. slice_get l place) p.put ∙ get_set between place None (Some p.back) none in
      let mine = taken_at (places_of realms) conn slots between posters taken stands in
      let own = subst (λ l. AreOfSeat (number + 1) l) (sym is) mine.1 in
      left_covers (length next.value.realms.items) (length after) place overs now ended.posters.items p.back put (lists_at same) before doors within (doors_long after doors alike) saw p.same there (s.free place p.back there).1 s.say
      (λ i j other. posts_elsewhere (number + 1) (j + 1) i overs now began left more own (λ same. other (omega (arith, same, at)))) cover
