-- The seats of connections: how many numbers each has given, and whether its last one is out.
use Rattle.std.specs.Prelude.{◌≡◌, ◌<◌, ◌+◌, ◌*◌, ◌-◌, ◌/◌, ◌&&◌, ◌==◌, ℕ, Bool, true, false, List, set, get_or, nat_lt, None, Some, if◌then◌else◌}
use Rattle.std.specs.declared.option.Option.{Option}
use Rattle.wamp_ids.specs.Numbers.{seat_of}

pub record Table : Type 0 where
  pub given : List ℕ
  pub is_out : List Bool

-- the next number of the seat at a place from 0: those of seat s are s, s + 256, s + 512, ..
abbrev pub number_at : Table → ℕ → ℕ
number_at t place = get_or t.given place 0 * 256 + place + 1

-- the same where the seat is free, and has one
abbrev pub free_at : Table → ℕ → Option ℕ
free_at t place =
    if get_or t.is_out place true then None
    else if nat_lt (number_at t place) 18446744073709551616 then Some (number_at t place)
    else None

-- the lowest free seat gives its next number, which is out from then on
pub record Takes (old : Table) (conn : ℕ) (new : Table) : Type 0 where
  pub place : ℕ
  pub within : place < 256
  pub free : free_at old place ≡ Some conn
  pub lowest : (k : ℕ) → k < place → free_at old k ≡ None
  pub given : new.given ≡ set old.given place (get_or old.given place 0 + 1)
  pub is_out : new.is_out ≡ set old.is_out place true

-- the number is the last that its seat gave, and it is out
abbrev pub holds_number : Table → ℕ → Bool
holds_number t conn = get_or t.is_out (seat_of conn - 1) false && get_or t.given (seat_of conn - 1) 0 == (conn - 1) / 256 + 1

-- a number that is out makes its seat free; another changes nothing
abbrev pub given_back : Table → ℕ → Table
given_back t conn = record t { is_out = if holds_number t conn then set t.is_out (seat_of conn - 1) false else t.is_out }
