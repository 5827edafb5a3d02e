-- The numbers of the connections that had a seat.
use Rattle.std.specs.Prelude.{◌≡◌, ◌<◌, ◌+◌, ◌-◌, ◌/◌, ℕ, List, [], ◌∷◌, Option, Some, get_or, length, slice_get}
use Rattle.std.specs.List.{flat_map}
use Rattle.threaded_server.specs.SeatRules.{AscendAtSeats}
use Rattle.threaded_server.specs.Seats.{Table}
use Rattle.threaded_server.specs.Posters.{AreOf}
use Rattle.threaded_server.specs.declared.entry.Connection.{Connection}
use Rattle.threaded_server.specs.declared.over.Over.{Over}
use Rattle.threaded_server.specs.declared.over.Over.TheVariants.{Seated, TurnedAway, Untouched}
use Rattle.broker_threads.specs.declared.reader_thread.Reader.{Reader}
use Rattle.wamp_ids.specs.Numbers.{seat_of}

module _ {I O S : Type 0} where
  -- the number of a stream's connection, if it had a seat
  abbrev pub conn_of : Over I O S → List ℕ
  conn_of (Seated reader ended) = reader.value.conn ∷ []
  conn_of (TurnedAway halves source sink) = []
  conn_of (Untouched halves) = []

  -- and those of all of them, in the order in which they were over
  abbrev pub conns_of : List (Over I O S) → List ℕ
  conns_of streams = flat_map conn_of streams

-- its seat gave the number
abbrev pub IsGiven : Table → ℕ → Type 0
IsGiven seats number = (number - 1) / 256 < get_or seats.given (seat_of number - 1) 0

module _ {I O S : Type 0} where
  -- the number was given, and is above those of its seat which the streams have that are over
  pub record IsNew (seats : Table) (streams : List (Over I O S)) (number : ℕ) : Type 0 where
    pub given : IsGiven seats number
    pub above : (i n : ℕ) → slice_get (conns_of streams) i ≡ Some n → seat_of n ≡ seat_of number → n < number

  -- the number of a reader at a seat, from 0, is new, of that seat, and the one that its posters have
  pub record IsNumbered (seats : Table) (k : ℕ) (streams : List (Over I O S)) (reader : Reader I O S) : Type 0 where
    pub seat : seat_of reader.conn ≡ k + 1
    pub new : IsNew seats streams reader.conn
    pub own : AreOf reader.conn reader.posters.items

  -- the numbers of streams that had a seat ascend at each seat, those that are served last
  pub record Numbered (seats : Table) (entries : List (Option (Connection I O S))) (streams : List (Over I O S)) : Type 0 where
    pub long : length seats.given ≡ 256
    pub ascend : AscendAtSeats (conns_of streams)
    pub given : (i n : ℕ) → slice_get (conns_of streams) i ≡ Some n → IsGiven seats n
    pub served : (k : ℕ) (entry : Connection I O S) → slice_get entries k ≡ Some (Some entry) → IsNumbered seats k streams entry.began.value
