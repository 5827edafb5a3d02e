-- What contracts see of an inbox's ends.
use Rattle.std.specs.Prelude.{◌≡◌, Option, Some, ℕ, ◌+◌, ◌<◌, List, [], length, slice_index_or}
use Rattle.atomic_table.specs.Seated.{TableId}
use Rattle.crossbeam_channel.specs.Claims.{view}
use Rattle.crossbeam_channel.specs.Ends.{receives_on, ruled_capacity}
use Rattle.realm_inbox.specs.declared.act.Act.{Act}
use Rattle.realm_inbox.specs.declared.letter.Post.{Post}
use Rattle.realm_inbox.specs.declared.door.Door.{Door}
use Rattle.realm_inbox.specs.declared.ends.Inbox.{Inbox}
use Rattle.realm_inbox.specs.declared.ends.Seat.{Seat}
use Rattle.realm_inbox.specs.declared.ends.Poster.{Poster}
use Rattle.ghost_state.specs.GhostList.{items_of}
use Rattle.realm_inbox.specs.Ends.{home_in, Place, place_of, posted_in, shown_in, told_in}
use Rattle.realm_inbox.specs.Posted.{Posted}

module _ {S : Type 0} where
  -- what the inbox gave so far, the oldest first
  abbrev pub received : Inbox S → List (Post S)
  received i = items_of i.given

  -- how many posts may wait in it
  abbrev pub capacity : Inbox S → ℕ
  capacity i = ruled_capacity (receives_on i.receiver)

  -- a seat's number, from 1 to 256
  abbrev pub seat_number : Seat S → ℕ
  seat_number s = s.number

  -- what was posted at a seat, the oldest first, each act with its connection
  abbrev pub posted_at : Seat S → List (ℕ × Act S)
  posted_at s = posted_in (view s.pass)

  abbrev pub poster_conn : Poster S → ℕ
  poster_conn p = p.conn

  -- what was posted at a poster's seat, also by posters before it
  abbrev pub posted : Poster S → List (ℕ × Act S)
  posted p = posted_at p.seat

  -- of each seat that a door was shown, its number, and how many acts had been posted there
  abbrev pub shown : Door S → List (ℕ × ℕ)
  shown d = shown_in (view d.pass)

  -- what the stops told that a door has posted, the oldest first: what it had been shown by then
  abbrev pub told : Door S → List (List (ℕ × ℕ))
  told d = told_in (view d.pass)

  -- how many they are
  abbrev pub stops : Door S → ℕ
  stops d = length (told d)

  -- the chronicle of an inbox's realm, if one is picked
  abbrev pub home_of : Inbox S → Option TableId
  home_of i = home_in (view i.pass)

  abbrev pub home_of_seat : Seat S → Option TableId
  home_of_seat s = home_in (view s.pass)

  abbrev pub home_of_poster : Poster S → Option TableId
  home_of_poster p = home_of_seat p.seat

  -- which inbox an end belongs to
  abbrev pub inbox_of : Inbox S → Place S
  inbox_of i = place_of i.pass

  abbrev pub inbox_of_seat : Seat S → Place S
  inbox_of_seat s = place_of s.pass

  abbrev pub inbox_of_poster : Poster S → Place S
  inbox_of_poster p = inbox_of_seat p.seat

  abbrev pub inbox_of_door : Door S → Place S
  inbox_of_door d = place_of d.pass

  -- what was posted at a poster's seat, and where
  abbrev pub posted_by : Poster S → Posted S
  posted_by p = record { inbox = Some (inbox_of_poster p); conn = poster_conn p; said = posted p }

  -- as how many octets each act counted that a poster posted
  abbrev pub weights_by : Poster S → List ℕ
  weights_by p = items_of p.weights

  -- how many acts came back to a poster
  abbrev pub returned_by : Poster S → ℕ
  returned_by p = p.returned

  -- the seat of this number, where nothing was posted yet
  abbrev pub IsNewSeat : Place S → ℕ → Seat S → Type 0
  IsNewSeat place k s = (seat_number s ≡ k) × (posted_at s ≡ []) × (inbox_of_seat s ≡ place)

  -- seats from 1 on, in order
  abbrev pub AreNewSeats : Place S → List (Seat S) → Type 0
  AreNewSeats place seats = (k : ℕ) (d : Seat S) → k < length seats → IsNewSeat place (k + 1) (slice_index_or seats k d)
