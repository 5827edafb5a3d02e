-- What was posted so far, and where.
use Rattle.std.specs.Prelude.{ℕ, Option, List, map, ◌++◌}
use Rattle.realm_inbox.specs.Ends.{Place}
use Rattle.realm_inbox.specs.declared.act.Act.{Act}

-- where acts go, namely to an inbox, if it is one, as acts of this connection; and what was posted there so far, the oldest first, each act with its connection
pub record Posted (S : Type 0) : Type 0 where
  pub inbox : Option (Place S)
  pub conn : ℕ
  pub said : List (ℕ × Act S)

-- the same place, and these acts of the connection behind what was posted there
abbrev pub with_acts : {S : Type 0} → Posted S → List (Act S) → Posted S
with_acts p acts = record { inbox = p.inbox; conn = p.conn; said = p.said ++ map (λ act. (p.conn, act)) acts }
