-- What the realms' actors had received before they stopped.
use Rattle.std.specs.Prelude.{◌≡◌, ◌<◌, ◌≤◌, ◌+◌, ℕ, List, [], ◌∷◌, ◌++◌, Option, None, Some, All, length, map, set, slice_get}
use Rattle.std.specs.Option.{option_flatten}
use mathlib.Core.List.{IsPrefix}
use Rattle.realm_inbox.specs.Behind.{HasAll}
use Rattle.realm_inbox.specs.EndViews.{inbox_of_door, received, shown, told}
use Rattle.realm_inbox.specs.Ends.{Place}
use Rattle.realm_inbox.specs.Seats.{at_seat}
use Rattle.realm_inbox.specs.declared.act.Act.{Act}
use Rattle.realm_inbox.specs.declared.door.Door.{Door}
use Rattle.realm_inbox.specs.declared.letter.Post.{Post}
use Rattle.threaded_server.specs.Histories.{until_stop}
use Rattle.threaded_server.specs.Posts.{posts_at}
use Rattle.threaded_server.specs.Realms.{Shown, places_of}
use Rattle.threaded_server.specs.declared.doors.Doors.{Doors}
use Rattle.threaded_server.specs.declared.over.Over.{Over}
use Rattle.threaded_server.specs.declared.realm_run.RealmRun.{RealmRun}
use Rattle.wamp_ids.specs.Numbers.{seat_of}

-- what a door of a realm's inbox shows: which inbox that is; of each seat that it was shown, the number, and how many acts had been posted there; and what its stops told
pub record DoorView (S : Type 0) : Type 0 where
  pub inbox : Place S
  pub shown : List (ℕ × ℕ)
  pub told : List (List (ℕ × ℕ))

module _ {S : Type 0} where
  abbrev pub door_view : Door S → DoorView S
  door_view d = record { inbox = inbox_of_door d; shown = shown d; told = told d }

  abbrev pub doors_of : Doors S → List (DoorView S)
  doors_of doors = map door_view doors.doors.items

  -- the inbox of each, and what its stops told
  abbrev pub inboxes_in : List (DoorView S) → List (Place S)
  inboxes_in doors = map (λ door. door.inbox) doors

  abbrev pub stops_in : List (DoorView S) → List (List (List (ℕ × ℕ)))
  stops_in doors = map (λ door. door.told) doors

  -- how each of them was told to stop
  abbrev pub stops_of : Doors S → List (List (List (ℕ × ℕ)))
  stops_of doors = stops_in (doors_of doors)

  -- they are of these realms' inboxes
  abbrev pub AreDoorsOf : List (Shown S) → List (DoorView S) → Type 0
  AreDoorsOf realms doors = places_of realms ≡ inboxes_in doors

  -- a door is shown a poster with this trace, if there is one: the number of its seat, and how many acts were posted there
  abbrev pub sees : Option (ℕ × Place S × List (ℕ × Act S)) → DoorView S → DoorView S
  sees None door = door
  sees (Some t) door = record door { shown = door.shown ++ (seat_of t.0, length t.2) ∷ [] }

  -- each door is shown the poster of its realm, of those of a seat, which have these traces
  pub record AllSee (seat : List (Option (ℕ × Place S × List (ℕ × Act S)))) (before now : List (DoorView S)) : Type 0 where
    pub inboxes : inboxes_in now ≡ inboxes_in before
    pub stops : stops_in now ≡ stops_in before
    pub each : (realm : ℕ) (door : DoorView S) → slice_get now realm ≡ Some door → (was : DoorView S) × (slice_get before realm ≡ Some was) × (door ≡ sees (option_flatten (slice_get seat realm)) was)

  -- the one at this place is, if it is there
  abbrev pub SeesAt : ℕ → List (Option (ℕ × Place S × List (ℕ × Act S))) → List (DoorView S) → List (DoorView S) → Type 0
  SeesAt realm seat before now = (was : DoorView S) → slice_get before realm ≡ Some was → now ≡ set before realm (sees (option_flatten (slice_get seat realm)) was)

  -- posters with these traces are of these inboxes, each of the one at its place
  abbrev pub AreOfInboxes : List (Place S) → List (Option (ℕ × Place S × List (ℕ × Act S))) → Type 0
  AreOfInboxes inboxes seat = (realm : ℕ) (inbox : Place S) (t : ℕ × Place S × List (ℕ × Act S)) → slice_get inboxes realm ≡ Some inbox → slice_get seat realm ≡ Some (Some t) → inbox ≡ t.1

  -- a door posts stops, or none: each tells what it was shown
  pub record MayStop (before now : DoorView S) : Type 0 where
    pub inbox : now.inbox ≡ before.inbox
    pub shown : now.shown ≡ before.shown
    pub stops : List (List (ℕ × ℕ))
    pub told : now.told ≡ before.told ++ stops
    pub each : All (λ seats. seats ≡ before.shown) stops

  -- each of them does
  abbrev pub AllMayStop : List (DoorView S) → List (DoorView S) → Type 0
  AllMayStop [] [] = Unit {0}
  AllMayStop [] (after ∷ now) = ⊥
  AllMayStop (door ∷ before) [] = ⊥
  AllMayStop (door ∷ before) (after ∷ now) = MayStop door after × AllMayStop before now

-- no stop was posted yet
abbrev pub NoneStopped : List (List (List (ℕ × ℕ))) → Type 0
NoneStopped stops = All (λ told. told ≡ []) stops

module _ {I O S : Type 0} where
  -- who has of each of these seats as many acts, has of each seat of 256 as many as the streams posted there, in the realm at this place
  abbrev pub Covers : ℕ → List (Over I O S) → List (ℕ × ℕ) → Type 0
  Covers realm streams seats = (ps : List (Post S)) (k : ℕ) → k < 256 → HasAll ps seats → length (posts_at realm (k + 1) streams) ≤ length (at_seat (k + 1) ps)

  -- each realm's door was shown what the streams posted that are over
  abbrev pub AllCover : List (Over I O S) → List (DoorView S) → Type 0
  AllCover streams doors = (realm : ℕ) (door : DoorView S) → slice_get doors realm ≡ Some door → Covers realm streams door.shown

  -- and so each of its stops tells what these streams posted, which were over when the first of them was posted
  abbrev pub StopsCover : List (Over I O S) → List (List (List (ℕ × ℕ))) → Type 0
  StopsCover early stops = (realm : ℕ) (told : List (List (ℕ × ℕ))) → slice_get stops realm ≡ Some told → All (Covers realm early) told

  -- what these streams posted was received before the first stop, at which a realm's actor ended: so all of it was handled
  abbrev pub HandledBefore : List (RealmRun S) → List (Over I O S) → Type 0
  HandledBefore runs early = (realm k : ℕ) (run : RealmRun S) → slice_get runs realm ≡ Some run → k < 256
      → IsPrefix (posts_at realm (k + 1) early) (at_seat (k + 1) (until_stop (received run.inbox.value)))

  -- and so is what each of these streams posted that were over when no stop was posted yet
  abbrev pub EarlyHandled : List (RealmRun S) → List (Over I O S) → List (List (List (ℕ × ℕ))) → Type 0
  EarlyHandled runs streams stops = (early : List (Over I O S)) → IsPrefix early streams → StopsCover early stops → HandledBefore runs early
