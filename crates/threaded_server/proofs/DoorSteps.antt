-- The doors of the realms' inboxes, as they are shown posters, and post stops.
use Rattle.std.proofs.Common.{◌≡◌, ◌≢◌, ◌≤◌, ◌<◌, ◌+◌, ℕ, Bool, true, false, if◌then◌else◌, zero, suc, List, [], ◌∷◌, ◌++◌, Option, None, Some, All, length, length-append, map, option_map, set, slice_get, refl, sym, ap, ◌∙◌, append_assoc, append-nil, subst, arith}
use mathlib.Core.List.{IsPrefix}
use mathlib.Core.Logic.{◌⊎◌, inl, inr}
use Rattle.std.proofs.lemmas.List.{length-map, map-set}
use Rattle.std.proofs.lemmas.List.Elements.{All-append, All-head, All-nil, All-push, All-tail, All-weaker}
use Rattle.std.proofs.lemmas.Option.{none-some, same_Some, slice_get-map, slice_get_within}
use Rattle.std.specs.Option.{option_flatten}
use Rattle.outbox_queue.proofs.OwedBeginnings.{prefix-on}
use Rattle.realm_inbox.specs.Ends.{Place}
use Rattle.realm_inbox.specs.declared.act.Act.{Act}
use Rattle.realm_inbox.specs.declared.ends.Poster.{Poster}
use Rattle.realm_inbox.specs.EndViews.{inbox_of_door, inbox_of_poster, posted, poster_conn, shown, told}
use Rattle.realm_inbox.specs.Unchanged.{IsSamePoster}
use Rattle.realm_inbox.specs.declared.door.Door.{Door}
use Rattle.threaded_server.proofs.DrainSteps.{flat_traces, same_trace}
use Rattle.threaded_server.proofs.Places.{below, get_of_map, get_set_cases, map_get, map_same}
use Rattle.threaded_server.proofs.PostersBack.{trace_there}
use Rattle.threaded_server.specs.Posters.{AreAt, trace, traces}
use Rattle.threaded_server.specs.Stopping.{AllMayStop, AllSee, AreOfInboxes, DoorView, MayStop, NoneStopped, SeesAt, door_view, doors_of, inboxes_in, sees, stops_in}
use Rattle.threaded_server.specs.declared.doors.Doors.{Doors}
use Rattle.wamp_ids.specs.Numbers.{seat_of}

abbrev Trace : Type 0 → Type 0
Trace S = ℕ × Place S × List (ℕ × Act S)

module _ {A : Type 0} where
  pub there : (xs : List A) (i : ℕ) → i < length xs → (a : A) × (slice_get xs i ≡ Some a)
  there [] i less = absurd (omega (arith, less))
  there (x ∷ xs) zero less = (x, refl)
  there (x ∷ xs) (suc i) less = there xs i (omega (arith, less))

  -- what stands before the last, and the last
  pub snoc_same : (xs ys : List A) (a b : A) → xs ++ a ∷ [] ≡ ys ++ b ∷ [] → (xs ≡ ys) × (a ≡ b)
  snoc_same [] [] a b e = (refl, let same : a ≡ b = cc in same)
  snoc_same [] (y ∷ ys) a b e = let long : length (ys ++ b ∷ []) ≡ length ys + 1 = length-append ys (b ∷ []) in absurd (omega (arith, ap length e, long))
  snoc_same (x ∷ xs) [] a b e = let long : length (xs ++ a ∷ []) ≡ length xs + 1 = length-append xs (a ∷ []) in absurd (omega (arith, ap length e, long))
  snoc_same (x ∷ xs) (y ∷ ys) a b e =
      let head : x ≡ y = cc in
      let tail : xs ++ a ∷ [] ≡ ys ++ b ∷ [] = cc in
      let r = snoc_same xs ys a b tail in
      (λ i. head i ∷ r.0 i, r.1)

module _ {S : Type 0} where
  sees_inbox : (t : Option (Trace S)) (door : DoorView S) → (sees t door).inbox ≡ door.inbox
  sees_inbox None door = refl
  sees_inbox (Some t) door = refl

  sees_told : (t : Option (Trace S)) (door : DoorView S) → (sees t door).told ≡ door.told
  sees_told None door = refl
  sees_told (Some t) door = refl

  -- the first of the doors were shown their posters, and the others weren't yet
  pub record SeenUpTo (next : ℕ) (seat : List (Option (Trace S))) (before now : List (DoorView S)) : Type 0 where
    pub inboxes : inboxes_in now ≡ inboxes_in before
    pub stops : stops_in now ≡ stops_in before
    pub each : (i : ℕ) (door : DoorView S) → slice_get now i ≡ Some door
        → (was : DoorView S) × (slice_get before i ≡ Some was) × (i < next → door ≡ sees (option_flatten (slice_get seat i)) was) × (next ≤ i → door ≡ was)

  pub seen_none : (seat : List (Option (Trace S))) (doors : List (DoorView S)) → SeenUpTo 0 seat doors doors
  seen_none seat doors = record { inboxes = refl; stops = refl; each = λ i door at. (door, at, (λ less. absurd (omega (arith, less))), (λ more. refl)) }

  pub seen_on : (next : ℕ) (seat : List (Option (Trace S))) (before now new : List (DoorView S)) → next < length now → SeenUpTo next seat before now → SeesAt next seat now new → SeenUpTo (next + 1) seat before new
  seen_on next seat before now new within h sees_it =
      let door = there now next within in
      let t = option_flatten (slice_get seat next) in
      let e = sees_it door.0 door.1 in
      record {
        inboxes = ap inboxes_in e ∙ map_same (λ (d : DoorView S). d.inbox) now next door.0 (sees t door.0) door.1 (sees_inbox t door.0) ∙ h.inboxes;
        stops = ap stops_in e ∙ map_same (λ (d : DoorView S). d.told) now next door.0 (sees t door.0) door.1 (sees_told t door.0) ∙ h.stops;
        each = λ i d at. by_place door.0 door.1 i d (get_set_cases now next i (sees t door.0) d (ap (λ l. slice_get l i) (sym e) ∙ at));
      }
    where
      Was : ℕ → DoorView S → Type 0
      Was i d = (was : DoorView S) × (slice_get before i ≡ Some was) × (i < next + 1 → d ≡ sees (option_flatten (slice_get seat i)) was) × (next + 1 ≤ i → d ≡ was)

      by_place : (door : DoorView S) → slice_get now next ≡ Some door → (i : ℕ) (d : DoorView S) → ((next ≡ i) × (sees (option_flatten (slice_get seat next)) door ≡ d)) ⊎ ((next ≢ i) × (slice_get now i ≡ Some d)) → Was i d
      by_place door here i d (inl w) =
          let old = h.each next door here in
          let same : door ≡ old.0 = old.3 (omega arith) in
          (old.0, ap (slice_get before) (sym w.0) ∙ old.1, (λ less. sym w.1 ∙ (λ j. sees (option_flatten (slice_get seat (w.0 j))) (same j))), (λ more. absurd (omega (arith, w.0, more))))
      by_place door here i d (inr w) =
          let old = h.each i d w.1 in
          (old.0, old.1, (λ less. old.2 (below i next less w.0)), (λ more. old.3 (omega (arith, more))))

  -- as many doors
  pub as_many : (were are : Doors S) → inboxes_in (doors_of are) ≡ inboxes_in (doors_of were) → length are.doors.items ≡ length were.doors.items
  as_many were are e = sym (long are) ∙ ap length e ∙ long were
    where
      long : (d : Doors S) → length (inboxes_in (doors_of d)) ≡ length d.doors.items
      long d = length-map (doors_of d) (λ (v : DoorView S). v.inbox) ∙ length-map d.doors.items door_view

  pub seen_all : (next : ℕ) (seat : List (Option (Trace S))) (before now : List (DoorView S)) → length before ≤ next → SeenUpTo next seat before now → AllSee seat before now
  seen_all next seat before now all h = record {
    inboxes = h.inboxes;
    stops = h.stops;
    each = λ i door at.
        let old = h.each i door at in
        let within : i < length before = slice_get_within before i old.0 old.1 in
        (old.0, old.1, old.2 (omega (arith, within, all)));
  }

  -- one door is shown its poster
  pub saw_poster : (doors : List (Door S)) (realm : ℕ) (door new : Door S) (posters : List (Option (Poster S))) (poster now : Poster S) → slice_get doors realm ≡ Some door → slice_get posters realm ≡ Some (Some poster) → IsSamePoster poster now
      → shown new ≡ shown door ++ (seat_of (poster_conn now), length (posted now)) ∷ [] → told new ≡ told door → inbox_of_door new ≡ inbox_of_door door → SeesAt realm (traces posters) (map door_view doors) (map door_view (set doors realm new))
  saw_poster doors realm door new posters poster now here there same more stops place was at =
      let is : door_view door ≡ was = same_Some (door_view door) was (sym (map_get door_view doors realm door here) ∙ at) in
      let counts = more ∙ ap (λ (t : Trace S). shown door ++ (seat_of t.0, length t.2) ∷ []) (same_trace poster now same) in
      let saw : door_view new ≡ sees (Some (trace poster)) (door_view door) = λ i. record { inbox = place i; shown = counts i; told = stops i } in
      map-set door_view doors realm new ∙ ap (set (map door_view doors) realm) (saw ∙ ap (λ o. sees (option_flatten o) (door_view door)) (sym (map_get (option_map trace) posters realm (Some poster) there)) ∙ ap (sees (option_flatten (slice_get (traces posters) realm))) is)

  -- or none, where that isn't there
  pub saw_none : (doors : List (Door S)) (realm : ℕ) (door : Door S) (posters : List (Option (Poster S))) → slice_get doors realm ≡ Some door → option_flatten (slice_get posters realm) ≡ None → SeesAt realm (traces posters) (map door_view doors) (map door_view (set doors realm door))
  saw_none doors realm door posters here none was at =
      let is : door_view door ≡ was = same_Some (door_view door) was (sym (map_get door_view doors realm door here) ∙ at) in
      let nothing = ap option_flatten (slice_get-map (option_map trace) posters realm) ∙ flat_traces (slice_get posters realm) ∙ ap (option_map trace) none in
      map-set door_view doors realm door ∙ ap (set (map door_view doors) realm) (is ∙ ap (λ t. sees t was) (sym nothing))

  -- posters that stand where they should are of the doors' inboxes
  pub of_inboxes : (inboxes places : List (Place S)) (posters : List (Option (Poster S))) → places ≡ inboxes → AreAt places posters → AreOfInboxes inboxes (traces posters)
  of_inboxes inboxes places posters same at realm inbox t here there =
      let p = trace_there posters realm t there in
      same_Some inbox (inbox_of_poster p.0) (sym here ∙ ap (λ l. slice_get l realm) (sym same) ∙ at realm p.0 p.1) ∙ ap (λ (x : Trace S). x.1) p.2

  stays_stop : (door : DoorView S) → MayStop door door
  stays_stop door = record { inbox = refl; shown = refl; stops = []; told = sym (append-nil door.told); each = All-nil (λ seats. seats ≡ door.shown) }

  then_stops : (a b c : DoorView S) → MayStop a b → MayStop b c → MayStop a c
  then_stops a b c x y = record {
    inbox = y.inbox ∙ x.inbox;
    shown = y.shown ∙ x.shown;
    stops = x.stops ++ y.stops;
    told = y.told ∙ ap (λ l. l ++ y.stops) x.told ∙ append_assoc a.told x.stops y.stops;
    each = All-append (λ seats. seats ≡ a.shown) x.stops y.stops x.each (All-weaker (λ seats. seats ≡ b.shown) (λ seats. seats ≡ a.shown) (λ seats e. e ∙ x.shown) y.stops y.each);
  }

  -- one stop, or none where the inbox is gone
  pub may_stop : (posted : Bool) (before now : Door S) → told now ≡ (if posted then told before ++ shown before ∷ [] else told before) → shown now ≡ shown before → inbox_of_door now ≡ inbox_of_door before → MayStop (door_view before) (door_view now)
  may_stop true before now e same place = record { inbox = place; shown = same; stops = shown before ∷ []; told = e; each = All-push (λ seats. seats ≡ shown before) [] (shown before) (All-nil (λ seats. seats ≡ shown before)) refl }
  may_stop false before now e same place = record { inbox = place; shown = same; stops = []; told = e ∙ sym (append-nil (told before)); each = All-nil (λ seats. seats ≡ shown before) }

  pub all_stay : (doors : List (DoorView S)) → AllMayStop doors doors
  all_stay [] = tt
  all_stay (door ∷ doors) = (stays_stop door, all_stay doors)

  pub all_then : (before between now : List (DoorView S)) → AllMayStop before between → AllMayStop between now → AllMayStop before now
  all_then [] [] [] x y = tt
  all_then [] [] (c ∷ now) x y = absurd y
  all_then [] (b ∷ between) now x y = absurd x
  all_then (a ∷ before) [] now x y = absurd x
  all_then (a ∷ before) (b ∷ between) [] x y = absurd y
  all_then (a ∷ before) (b ∷ between) (c ∷ now) x y = (then_stops a b c x.0 y.0, all_then before between now x.1 y.1)

  pub one_stops : (doors : List (DoorView S)) (i : ℕ) (door after : DoorView S) → slice_get doors i ≡ Some door → MayStop door after → AllMayStop doors (set doors i after)
  one_stops [] i door after at may = absurd (none-some door at)
  one_stops (d ∷ doors) zero door after at may = (subst (λ (x : DoorView S). MayStop x after) (sym (same_Some d door at)) may, all_stay doors)
  one_stops (d ∷ doors) (suc i) door after at may = (stays_stop d, one_stops doors i door after at may)

  pub may_get : (before now : List (DoorView S)) (i : ℕ) (after : DoorView S) → AllMayStop before now → slice_get now i ≡ Some after → (door : DoorView S) × (slice_get before i ≡ Some door) × MayStop door after
  may_get [] [] i after h at = absurd (none-some after at)
  may_get [] (b ∷ now) i after h at = absurd h
  may_get (a ∷ before) [] i after h at = absurd h
  may_get (a ∷ before) (b ∷ now) zero after h at = (a, refl, subst (λ (x : DoorView S). MayStop a x) (same_Some b after at) h.0)
  may_get (a ∷ before) (b ∷ now) (suc i) after h at = may_get before now i after h.1 at

  pub may_inboxes : (before now : List (DoorView S)) → AllMayStop before now → inboxes_in now ≡ inboxes_in before
  may_inboxes [] [] h = refl
  may_inboxes [] (b ∷ now) h = absurd h
  may_inboxes (a ∷ before) [] h = absurd h
  may_inboxes (a ∷ before) (b ∷ now) h = λ i. h.0.inbox i ∷ may_inboxes before now h.1 i

  -- no stop was posted at a door more either
  pub none_more : (doors now : List (DoorView S)) (door : DoorView S) → now ≡ doors ++ door ∷ [] → door.told ≡ [] → NoneStopped (stops_in doors) → NoneStopped (stops_in now)
  none_more doors now door e none h = subst (λ (l : List (DoorView S)). NoneStopped (stops_in l)) (sym e) (more doors h)
    where
      more : (ds : List (DoorView S)) → NoneStopped (stops_in ds) → NoneStopped (stops_in (ds ++ door ∷ []))
      more [] all = All-push (λ told. told ≡ []) [] door.told (All-nil (λ told. told ≡ [])) none
      more (d ∷ ds) all = let P = λ (told : List (List (ℕ × ℕ))). told ≡ [] in All-append P (d.told ∷ []) (stops_in (ds ++ door ∷ [])) (All-push P [] d.told (All-nil P) (All-head P d.told (stops_in ds) all)) (more ds (All-tail P d.told (stops_in ds) all))

  -- what two stops told at most, where each tells what was shown
  pub twice_told : (one two : Bool) (first between last : Door S) (xs : List (List (ℕ × ℕ))) → told between ≡ (if one then told first ++ shown first ∷ [] else told first) → shown between ≡ shown first → told last ≡ (if two then told between ++ shown between ∷ [] else told between)
      → IsPrefix xs (told last) → IsPrefix xs (told first ++ shown first ∷ shown first ∷ [])
  twice_told one two first between last xs e same f p = prefix-on xs (told last) (told first ++ shown first ∷ shown first ∷ []) p (both one two e f)
    where
      s : List (ℕ × ℕ)
      s = shown first

      both : (one two : Bool) → told between ≡ (if one then told first ++ s ∷ [] else told first) → told last ≡ (if two then told between ++ shown between ∷ [] else told between) → IsPrefix (told last) (told first ++ s ∷ s ∷ [])
      both true true e f = ([], append-nil (told last) ∙ f ∙ (λ i. e i ++ same i ∷ []) ∙ append_assoc (told first) (s ∷ []) (s ∷ []))
      both true false e f = (s ∷ [], ap (λ l. l ++ s ∷ []) (f ∙ e) ∙ append_assoc (told first) (s ∷ []) (s ∷ []))
      both false true e f = (s ∷ [], ap (λ l. l ++ s ∷ []) (f ∙ (λ i. e i ++ same i ∷ [])) ∙ append_assoc (told first) (s ∷ []) (s ∷ []))
      both false false e f = (s ∷ s ∷ [], ap (λ l. l ++ s ∷ s ∷ []) (f ∙ e))

module _ {A : Type 0} where
  pub heads : (x y : A) (xs ys : List A) → x ∷ xs ≡ y ∷ ys → (x ≡ y) × (xs ≡ ys)
  heads x y xs ys e = let head : x ≡ y = cc in let tail : xs ≡ ys = cc in (head, tail)

  pub none_there : (x : A) (xs ys : List A) → x ∷ xs ≡ ys → ys ≡ [] → ⊥
  none_there x xs ys e none = omega (arith, ap length e, ap length none)
