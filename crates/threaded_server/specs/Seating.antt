-- The seats of connections, and who is there.
use Rattle.std.specs.Prelude.{◌≡◌, ◌≤◌, ◌+◌, ◌-◌, ◌/◌, ℕ, true, false, List, Option, None, Some, get_or, length, slice_get}
use Rattle.threaded_server.specs.Seats.{Table}
use Rattle.threaded_server.specs.declared.entry.Connection.{Connection}

-- the number is the last that the seat of this place, from 0, gave, and it is out
pub record IsLastOf (seats : Table) (k number : ℕ) : Type 0 where
  pub out : get_or seats.is_out k false ≡ true
  pub last : (number - 1) / 256 + 1 ≡ get_or seats.given k 0

module _ {I O S : Type 0} where
  -- A seat is out exactly where a connection is at its place, by the last number that it gave; and no seat gave more numbers than streams were lent
  pub record AreSeated (seats : Table) (entries : List (Option (Connection I O S))) (lent : List (I × O)) : Type 0 where
    pub places : length entries ≡ 256
    pub long : length seats.is_out ≡ 256
    pub free : (k : ℕ) → slice_get entries k ≡ Some None → get_or seats.is_out k true ≡ false
    pub held : (k : ℕ) (entry : Connection I O S) → slice_get entries k ≡ Some (Some entry) → IsLastOf seats k entry.began.value.conn
    pub few : (k : ℕ) → get_or seats.given k 0 ≤ length lent
