-- Who finds a seat: who is told that none is free, and the numbers of those that had one.
use Rattle.std.specs.Prelude.{◌≡◌, ◌⊎◌, ◌≤◌, ◌<◌, ◌+◌, ℕ, List, Some, slice_get}
use Rattle.broker_threads.specs.Streams.{KeepsNames, Sight}
use Rattle.rawsocket.specs.Devices.{Takes, TakesBeginning, WriteFails, Writing}
use Rattle.rawsocket.specs.Handshakes.{refusing}
use Rattle.session.specs.Opened.{AreUsedUp}
use Rattle.wamp_ids.specs.Numbers.{seat_of}

-- it is told that no seat is free: 7F 40 00 00 is written, or a beginning of it where the device failed or had no turn left
abbrev pub TellsRefusal : Writing → Writing → Type 0
TellsRefusal before now = Takes before now (refusing 4) ⊎ (TakesBeginning before now (refusing 4) × (WriteFails before now ⊎ AreUsedUp before.calls now.calls))

-- no seat was free: nothing was read, and its client was told so
pub record IsTurnedAway {I O : Type 0} (see : Sight I O) (before after : I × O) : Type 0 where
  pub unread : after.0 ≡ before.0
  pub told : TellsRefusal (see.writing before.1) (see.writing after.1)
  pub same : KeepsNames see before after

-- When a stream with these halves was lent, so many streams were over, and all seats were taken: of those that were lent before it 256 or more weren't over yet.
-- Or 2^56 - 1 or more were lent before it: so many numbers below 2^64 has a seat at least, and one that gave its last is taken for good
pub record FoundNoSeat {A : Type 0} (lent : List A) (over : ℕ) (halves : A) : Type 0 where
  pub before : ℕ
  pub here : slice_get lent before ≡ Some halves
  pub taken : (over + 256 ≤ before) ⊎ (72057594037927935 ≤ before)

-- the numbers of one seat ascend; so no number stands twice
abbrev pub AscendAtSeats : List ℕ → Type 0
AscendAtSeats numbers = (i j m n : ℕ) → i < j → slice_get numbers i ≡ Some m → slice_get numbers j ≡ Some n → seat_of m ≡ seat_of n → m < n
