-- What became of the streams that were lent.
use Rattle.std.specs.Prelude.{◌≡◌, ◌+◌, ⊤, ℕ, List, [], ◌∷◌, ◌++◌, Option, None, Some, All, IsPermutation, length, map, slice_get}
use Rattle.std.specs.Arc.{arc_value}
use Rattle.std.specs.declared.snapshot.Snapshot.{Snapshot}
use Rattle.broker_threads.specs.Courses.{fate_of, sink_of}
use Rattle.threaded_server.specs.Lending.{Lending, Returned, returned}
use Rattle.threaded_server.specs.SeatRules.{FoundNoSeat, IsTurnedAway}
use Rattle.broker_threads.specs.Streams.{Offer, Reads, Sight, offer_of}
use Rattle.broker_threads.specs.declared.stream_fate.StreamFate.TheVariants.{NoMemory, NoSeat}
use Rattle.threaded_server.specs.declared.over.Gone.{Gone}
use Rattle.threaded_server.specs.declared.over.Over.{Over}
use Rattle.threaded_server.specs.declared.over.Over.TheVariants.{Seated, TurnedAway, Untouched}

module _ {I O S : Type 0} where
  -- the halves of a stream, as it was lent
  abbrev pub before_of : Over I O S → I × O
  before_of (Seated reader ended) = (reader.value.source, reader.value.sink)
  before_of (TurnedAway halves source sink) = halves.value
  before_of (Untouched halves) = halves.value

  -- and as they were let go of, with what the acceptor is told of it
  abbrev pub after_of : Over I O S → Returned I O
  after_of (Seated reader ended) = returned ended.value.source.last.value (sink_of ended.value.course).last.value (fate_of ended.value.course)
  after_of (TurnedAway halves source sink) = returned source.value sink.value NoSeat
  after_of (Untouched halves) = returned halves.value.0 halves.value.1 NoMemory

  -- one stream more is over, of which this is left
  pub record Adds (before now : List (Over I O S)) (back : Returned I O) : Type 0 where
    pub over : Over I O S
    pub added : now ≡ before ++ over ∷ []
    pub after : after_of over ≡ back

  -- one is, from which nothing was read, and to which nothing was written
  pub record AddsUntouched (before now : List (Over I O S)) (halves : I × O) : Type 0 where
    pub shown : Snapshot (I × O)
    pub shows : shown.value ≡ halves
    pub added : now ≡ before ++ Untouched shown ∷ []

  -- none is, or one more
  abbrev pub GoesOver : List (Over I O S) → List (Over I O S) → Option (Gone I O) → Type 0
  GoesOver before now None = now ≡ before
  GoesOver before now (Some gone) = Adds before now (returned gone.source.last.value gone.sink.last.value gone.fate)

-- what a broker knows of its streams: the halves of all that it was lent, in their order, and what became of those that are over, in the order of that
pub record Books (I O S : Type 0) : Type 0 where
  pub lent : List (I × O)
  pub over : List (Over I O S)

module _ {I O S : Type 0} where
  -- Between two moments so many streams came. Each was lent, or couldn't be taken apart; and what is left of each that went over meanwhile was taken back
  pub record Moves (came : ℕ) (was now : Lending I O) (had has : Books I O S) : Type 0 where
    pub more : List (I × O)
    pub over : List (Over I O S)
    pub refused : ℕ
    pub lent : now.lent ≡ was.lent ++ more
    pub lent_here : has.lent ≡ had.lent ++ more
    pub returned : now.returned ≡ was.returned ++ map after_of over
    pub over_here : has.over ≡ had.over ++ over
    pub refused_more : now.refused ≡ was.refused + refused
    pub all_came : came ≡ length more + refused

module _ {I O S : Type 0} where
  -- the stream that was over after so many others was told that no seat is free only where none was
  abbrev pub Found : List (I × O) → ℕ → Over I O S → Type 0
  Found lent over (Seated reader ended) = ⊤
  Found lent over (TurnedAway halves source sink) = FoundNoSeat lent over halves.value
  Found lent over (Untouched halves) = ⊤

  -- and so was each
  abbrev pub AllFound : List (I × O) → List (Over I O S) → Type 0
  AllFound lent streams = (i : ℕ) (over : Over I O S) → slice_get streams i ≡ Some over → Found lent i over

module _ {I O S : Type 0} (see : Sight I O) (offer : Offer) where
  -- a stream that had a seat went by what its reader gives back, which serves these realms
  abbrev pub Went : Over I O S → Type 0
  Went (Seated reader ended) = (offer_of (arc_value reader.value.plan) ≡ offer) × Reads see reader.value ended.value
  Went (TurnedAway halves source sink) = IsTurnedAway see halves.value (source.value, sink.value)
  Went (Untouched halves) = ⊤

  -- Each stream that was lent was let go of: these are they, in the order of that. None was told that no seat is free while one was
  pub record AllWent (lent : List (I × O)) (streams : List (Over I O S)) : Type 0 where
    pub each : IsPermutation lent (map before_of streams)
    pub went : All (λ over. ∥ Went over ∥₁) streams
    pub found : AllFound lent streams
