-- What was handled before a realm's actor stopped.
use Rattle.std.proofs.Common.{◌≡◌, ◌≢◌, ◌≤◌, ◌<◌, ◌+◌, ℕ, zero, suc, List, [], ◌∷◌, ◌++◌, Option, None, Some, All, length, length-append, map, option_map, slice_get, refl, sym, ap, ◌∙◌, subst, arith, append_assoc, append-nil}
use mathlib.Core.List.{IsPrefix}
use mathlib.Core.Logic.{◌⊎◌, inl, inr}
use Rattle.std.proofs.Math.Logic.{∥∥₁_elim, ∥∥₁_map}
use Rattle.std.proofs.lemmas.Grind.{flat_map-append}
use Rattle.std.proofs.lemmas.List.{length-map}
use Rattle.std.proofs.lemmas.List.Elements.{All-head, All-push, All-weaker}
use Rattle.std.proofs.lemmas.Option.{none-some, same_Some, get_or_from_slice_get, slice_get_within}
use Rattle.std.specs.Option.{option_flatten}
use Rattle.std.specs.declared.snapshot.Snapshot.{Snapshot}
use Rattle.realm_inbox.proofs.Lemmas.{at_seat_append}
use Rattle.realm_inbox.specs.Behind.{HasAll, behind, told_by}
use Rattle.realm_inbox.specs.EndViews.{inbox_of, posted, poster_conn, received, told}
use Rattle.realm_inbox.specs.EndViews.{shown as shown_to}
use Rattle.realm_inbox.specs.Ends.{Place}
use Rattle.realm_inbox.specs.Seats.{at_seat}
use Rattle.realm_inbox.specs.Seats.{stops_of as count_stops}
use Rattle.realm_inbox.specs.declared.act.Act.{Act as Deed}
use Rattle.realm_inbox.specs.declared.ends.Poster.{Poster}
use Rattle.realm_inbox.specs.declared.letter.Halt.{Halt}
use Rattle.realm_inbox.specs.declared.letter.Post.{Post}
use Rattle.realm_inbox.specs.declared.letter.Post.TheVariants.{Act, Stop}
use Rattle.threaded_server.proofs.DoorSteps.{may_get}
use Rattle.threaded_server.proofs.Places.{get_last, get_of_map, get_push_cases, map_get, map_same, same_or_other}
use Rattle.threaded_server.proofs.PostSteps.{posts_still}
use Rattle.threaded_server.proofs.RunHistories.{run_stopped}
use Rattle.threaded_server.proofs.Saying.{said_in}
use Rattle.threaded_server.specs.Histories.{Start, until_stop}
use Rattle.threaded_server.specs.Posters.{AreOfSeat, trace, traces}
use Rattle.threaded_server.specs.Posts.{AllSay, AreIn, ReceivedPosted, Say, posts_at, posts_of}
use Rattle.threaded_server.specs.Realms.{EachRuns, RunsTo, Shown, TakesIn, inbox_in, places_of, with_seen}
use Rattle.threaded_server.specs.Stopping.{AllCover, AllMayStop, AllSee, AreDoorsOf, Covers, DoorView, EarlyHandled, MayStop, NoneStopped, StopsCover, door_view, inboxes_in, sees, stops_in}
use Rattle.threaded_server.specs.Ties.{IsRun}
use Rattle.threaded_server.specs.declared.over.Over.{Over}
use Rattle.threaded_server.specs.declared.realm_run.RealmRun.{RealmRun}
use Rattle.broker_threads.specs.declared.writer_thread.SeenHistory.{SeenHistory}
use Rattle.wamp_ids.specs.Numbers.{seat_of}

module _ {A : Type 0} where
  -- of two beginnings of one list, the shorter one begins the other
  shorter : (xs ys more rest : List A) → xs ++ more ≡ ys ++ rest → length xs ≤ length ys → IsPrefix xs ys
  shorter [] ys more rest e less = (ys, refl)
  shorter (x ∷ xs) [] more rest e less = absurd (omega (arith, less))
  shorter (x ∷ xs) (y ∷ ys) more rest e less =
      let head : x ≡ y = cc in
      let tail : xs ++ more ≡ ys ++ rest = cc in
      let r = shorter xs ys more rest tail (omega (arith, less)) in
      (r.0, λ i. head i ∷ r.1 i)

  prefix_long : (xs ys : List A) → IsPrefix xs ys → length xs ≤ length ys
  prefix_long xs ys p = let long : length ys ≡ length xs + length p.0 = sym (ap length p.1) ∙ length-append xs p.0 in omega (arith, long)

  all_at : (P : A → Type 0) (xs : List A) (i : ℕ) (a : A) → slice_get xs i ≡ Some a → All P xs → P a
  all_at P xs i a e h = subst P (get_or_from_slice_get xs i a a e) (h i a (slice_get_within xs i a e))

module _ {S : Type 0} where
  -- what was received before a stop is what was received before the first one
  pub until_first : (until rest : List (Post S)) (halt : Halt) → count_stops until ≡ 0 → until_stop (until ++ Stop halt ∷ rest) ≡ until
  until_first [] rest halt none = refl
  until_first (Act l ∷ until) rest halt none = ap (λ ps. Act l ∷ ps) (until_first until rest halt (omega (arith, none)))
  until_first (Stop first ∷ until) rest halt none = absurd (omega (arith, none))

  -- and what that told is what was told first
  first_told : (until rest : List (Post S)) (halt : Halt) → count_stops until ≡ 0 → told_by (until ++ Stop halt ∷ rest) ≡ behind halt ∷ told_by rest
  first_told [] rest halt none = refl
  first_told (Act l ∷ until) rest halt none = first_told until rest halt (omega (arith, none))
  first_told (Stop first ∷ until) rest halt none = absurd (omega (arith, none))

  -- who has all of more seats has all of fewer
  pub has_front : (ps : List (Post S)) (seats more : List (ℕ × ℕ)) → HasAll ps (seats ++ more) → HasAll ps seats
  has_front ps [] more all = tt
  has_front ps (s ∷ seats) more all = (all.0, has_front ps seats more all.1)

  has_last : (ps : List (Post S)) (seats : List (ℕ × ℕ)) (s : ℕ × ℕ) → HasAll ps (seats ++ s ∷ []) → s.1 ≤ length (at_seat s.0 ps)
  has_last ps [] s all = all.0
  has_last ps (first ∷ seats) s all = has_last ps seats s all.1

  -- realms that take in what was seen are of the inboxes that they were of
  pub takes_places : (realms after : List (Shown S)) (seen : Option SeenHistory) → TakesIn realms seen after → places_of after ≡ places_of realms
  takes_places realms after None e = ap places_of e
  takes_places realms after (Some seen) k = ap places_of k.kept ∙ map_same inbox_in realms seen.realm k.realm (with_seen k.realm seen.history) k.at refl

  -- and the doors, which were shown what was posted, are theirs
  pub doors_after : (realms after : List (Shown S)) (seen : Option SeenHistory) (seat : List (Option (ℕ × Place S × List (ℕ × Deed S)))) (before now : List (DoorView S)) → TakesIn realms seen after → AllSee seat before now → AreDoorsOf realms before → AreDoorsOf after now
  doors_after realms after seen seat before now t saw same = takes_places realms after seen t ∙ same ∙ sym saw.inboxes

  pub doors_long : (realms : List (Shown S)) (doors : List (DoorView S)) → AreDoorsOf realms doors → length doors ≡ length realms
  doors_long realms doors same = sym (length-map doors (λ (d : DoorView S). d.inbox)) ∙ sym (ap length same) ∙ length-map realms inbox_in

  ran_to : (realms : List (Shown S)) (runs : List (RealmRun S)) (i : ℕ) (run : RealmRun S) → EachRuns realms runs → slice_get runs i ≡ Some run → (realm : Shown S) × RunsTo realm run
  ran_to [] [] i run each at = absurd (none-some run at)
  ran_to [] (r ∷ runs) i run each at = absurd each
  ran_to (realm ∷ realms) [] i run each at = absurd each
  ran_to (realm ∷ realms) (r ∷ runs) zero run each at = (realm, subst (λ (x : RealmRun S). RunsTo realm x) (same_Some r run at) each.0)
  ran_to (realm ∷ realms) (r ∷ runs) (suc i) run each at = ran_to realms runs i run each.1 at

module _ {I O S : Type 0} where
  posts_begin : (realm number : ℕ) (early streams : List (Over I O S)) → IsPrefix early streams → IsPrefix (posts_at realm number early) (posts_at realm number streams)
  posts_begin realm number early streams p = (posts_at realm number p.0, sym (flat_map-append (posts_of realm number) early p.0) ∙ ap (posts_at realm number) p.1)

  -- who covers more streams covers fewer
  covers_fewer : (realm : ℕ) (early streams : List (Over I O S)) (seats : List (ℕ × ℕ)) → IsPrefix early streams → Covers realm streams seats → Covers realm early seats
  covers_fewer realm early streams seats p covers ps k within all =
      let few : length (posts_at realm (k + 1) early) ≤ length (posts_at realm (k + 1) streams) = prefix_long (posts_at realm (k + 1) early) (posts_at realm (k + 1) streams) (posts_begin realm (k + 1) early streams p) in
      omega (arith, few, covers ps k within all)

  -- nothing was posted by no streams
  pub none_cover : (overs : List (Over I O S)) (doors : List (DoorView S)) → overs ≡ [] → AllCover overs doors
  none_cover overs doors none realm door at ps k within all = subst (λ (l : List (Over I O S)). length (posts_at realm (k + 1) l) ≤ length (at_seat (k + 1) ps)) (sym none) (omega arith)

  pub same_cover : (overs now : List (Over I O S)) (doors : List (DoorView S)) → now ≡ overs → ∥ AllCover overs doors ∥₁ → ∥ AllCover now doors ∥₁
  same_cover overs now doors e h = subst (λ (l : List (Over I O S)). ∥ AllCover l doors ∥₁) (sym e) h

  -- a stream goes over that posted nothing
  pub over_covers : (overs now : List (Over I O S)) (o : Over I O S) (doors : List (DoorView S)) → now ≡ overs ++ o ∷ [] → ((realm number : ℕ) → posts_of realm number o ≡ []) → ∥ AllCover overs doors ∥₁ → ∥ AllCover now doors ∥₁
  over_covers overs now o doors e nothing h = ∥∥₁_map h (λ cover realm door at ps k within all.
      subst (λ l. length l ≤ length (at_seat (k + 1) ps)) (sym (posts_still realm (k + 1) overs now o e (nothing realm (k + 1)))) (cover realm door at ps k within all))

  -- one goes over that had a seat, and the doors are shown its posters as they came back
  seat_covers : (whole count place : ℕ) (overs now : List (Over I O S)) (posters : List (Option (Poster S))) (before after : List (DoorView S)) → length after ≡ count → AllSee (traces posters) before after → AreOfSeat (place + 1) posters
      → Say posted whole count (λ i. posts_at i (place + 1) now) posters → ((i j : ℕ) → j ≢ place → posts_at i (j + 1) now ≡ posts_at i (j + 1) overs) → AllCover overs before → AllCover now after
  seat_covers whole count place overs now posters before after long saw own say others cover realm door at ps k within all = by_place (same_or_other k place)
    where
      was : (d : DoorView S) × (slice_get before realm ≡ Some d) × (door ≡ sees (option_flatten (slice_get (traces posters) realm)) d)
      was = saw.each realm door at

      said : (p : Poster S) × (slice_get posters realm ≡ Some (Some p)) × (posted p ≡ posts_at realm (place + 1) now)
      said = say.each realm (subst (λ (n : ℕ). realm < n) long (slice_get_within after realm door at))

      count_of : ℕ × ℕ
      count_of = (seat_of (poster_conn said.0), length (posted said.0))

      shown_is : door.shown ≡ was.0.shown ++ count_of ∷ []
      shown_is = ap (λ (d : DoorView S). d.shown) (was.2 ∙ ap (λ o. sees (option_flatten o) was.0) (map_get (option_map trace) posters realm (Some said.0) said.1))

      has : HasAll ps (was.0.shown ++ count_of ∷ [])
      has = subst (λ seats. HasAll ps seats) shown_is all

      by_place : (k ≡ place) ⊎ (k ≢ place) → length (posts_at realm (k + 1) now) ≤ length (at_seat (k + 1) ps)
      by_place (inl same) =
          let number : seat_of (poster_conn said.0) ≡ k + 1 = own realm said.0 said.1 ∙ ap (λ n. n + 1) (sym same) in
          subst (λ l. length l ≤ length (at_seat (k + 1) ps)) (said.2 ∙ ap (λ n. posts_at realm (n + 1) now) (sym same)) (subst (λ n. length (posted said.0) ≤ length (at_seat n ps)) number (has_last ps was.0.shown count_of has))
      by_place (inr other) = subst (λ l. length l ≤ length (at_seat (k + 1) ps)) (sym (others realm k other)) (cover realm was.0 was.1 ps k within (has_front ps was.0.shown (count_of ∷ []) has))

  pub left_covers : (whole count place : ℕ) (overs now : List (Over I O S)) (ended back : List (Option (Poster S))) (put taken : List (Option (List (Option (Poster S))))) (before after : List (DoorView S)) → place < 256 → length after ≡ count → AllSee (traces ended) before after → traces back ≡ traces ended
      → slice_get put place ≡ Some (Some back) → AreOfSeat (place + 1) back → ∥ AllSay posted whole count (λ realm number. posts_at realm number now) put taken ∥₁ → ((i j : ℕ) → j ≢ place → posts_at i (j + 1) now ≡ posts_at i (j + 1) overs)
      → ∥ AllCover overs before ∥₁ → ∥ AllCover now after ∥₁
  left_covers whole count place overs now ended back put taken before after within long saw same at own say others h =
      ∥∥₁_elim say squash₁ (λ s. ∥∥₁_map h (seat_covers whole count place overs now back before after long (subst (λ t. AllSee t before after) (sym same) saw) own
      (said_in posted whole count place (λ realm number. posts_at realm number now) put taken back at (s place within)).1 others))

  -- stops were posted, where none was yet
  pub stops_cover : (overs : List (Over I O S)) (before now : List (DoorView S)) → AllMayStop before now → AllCover overs before → NoneStopped (stops_in before) → StopsCover overs (stops_in now)
  stops_cover overs before now may cover none realm told at =
      let after = get_of_map (λ (d : DoorView S). d.told) now realm told at in
      let door = may_get before now realm after.0 may after.1 in
      let nothing : door.0.told ≡ [] = all_at (λ t. t ≡ []) (stops_in before) realm door.0.told (map_get (λ (d : DoorView S). d.told) before realm door.0 door.1) none in
      let told_is : told ≡ door.2.stops = sym after.2 ∙ door.2.told ∙ ap (λ l. l ++ door.2.stops) nothing in
      subst (λ l. All (Covers realm overs) l) (sym told_is) (All-weaker (λ seats. seats ≡ door.0.shown) (Covers realm overs) (λ seats e. subst (Covers realm overs) (sym e) (cover realm door.0 door.1)) door.2.stops door.2.each)

  pub still_cover : (overs : List (Over I O S)) (before now : List (DoorView S)) → AllMayStop before now → AllCover overs before → AllCover overs now
  still_cover overs before now may cover realm after at =
      let door = may_get before now realm after may at in
      subst (Covers realm overs) (sym door.2.shown) (cover realm door.0 door.1)

  -- In the end: what streams posted that were over before any stop was posted was received before the first one
  pub early_handled : (start : Start) (realms : List (Shown S)) (runs : List (RealmRun S)) (overs : List (Over I O S)) (doors : List (DoorView S)) → EachRuns realms runs → All (λ run. IsRun start run) runs → doors ≡ map (λ run. door_view run.door.value) runs
      → AllCover overs doors → ReceivedPosted runs overs → EarlyHandled runs overs (stops_in doors)
  early_handled start realms runs overs doors each ran doors_are cover all early begins covered realm k run at less =
      let view = door_view run.door.value in
      let here : slice_get doors realm ≡ Some view = ap (λ l. slice_get l realm) doors_are ∙ map_get (λ (r : RealmRun S). door_view r.door.value) runs realm run at in
      let to = ran_to realms runs realm run each at in
      let acts = (all_at (λ r. IsRun start r) runs realm run at ran).acts in
      let until = acts.ends.0 in
      let halt = acts.ends.1 in
      let no_stop = (run_stopped acts.ran until halt acts.ends.2).no_stop in
      let first = received run.ended.value.inbox in
      let last = received run.inbox.value in
      let came : first ≡ until ++ Stop halt ∷ acts.received.0 = sym acts.received.1 ∙ ap (λ ps. ps ++ acts.received.0) acts.ends.2 ∙ append_assoc until (Stop halt ∷ []) acts.received.0 in
      let more = acts.received.0 ++ to.1.more.0 in
      let whole : last ≡ until ++ Stop halt ∷ more = sym to.1.more.1 ∙ ap (λ ps. ps ++ to.1.more.0) came ∙ append_assoc until (Stop halt ∷ acts.received.0) to.1.more.0 in
      let told_first : told_by first ≡ behind halt ∷ told_by acts.received.0 = ap (λ ps. told_by ps) came ∙ first_told until acts.received.0 halt no_stop in
      let P = Covers realm early in
      let in_end = covers_fewer realm early overs view.shown begins (cover realm view here) in
      let stops = covered realm view.told (map_get (λ (d : DoorView S). d.told) doors realm view here) in
      let both : All P (view.told ++ view.shown ∷ view.shown ∷ []) = subst (λ l. All P l) (append_assoc view.told (view.shown ∷ []) (view.shown ∷ [])) (All-push P (view.told ++ view.shown ∷ []) view.shown (All-push P view.told view.shown stops in_end) in_end) in
      let covers : Covers realm early (behind halt) = All-head P (behind halt) (told_by acts.received.0 ++ to.1.stops.0) (subst (λ l. All P l) (sym to.1.stops.1 ∙ ap (λ l. l ++ to.1.stops.0) told_first) both) in
      let few = covers until k less acts.ends.3 in
      let posts = posts_begin realm (k + 1) early overs begins in
      let seat : at_seat (k + 1) until ++ at_seat (k + 1) (Stop halt ∷ more) ≡ posts_at realm (k + 1) overs = sym (at_seat_append (k + 1) until (Stop halt ∷ more)) ∙ ap (λ ps. at_seat (k + 1) ps) (sym whole) ∙ all realm k run at less in
      let short = shorter (posts_at realm (k + 1) early) (at_seat (k + 1) until) posts.0 (at_seat (k + 1) (Stop halt ∷ more)) (posts.1 ∙ sym seat) few in
      subst (λ ps. IsPrefix (posts_at realm (k + 1) early) (at_seat (k + 1) ps)) (sym (ap (λ ps. until_stop ps) whole ∙ until_first until more halt no_stop)) short
