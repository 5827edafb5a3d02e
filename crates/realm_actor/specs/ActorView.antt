-- What contracts see of an actor.
use Rattle.std.specs.Prelude.{ℕ, List, map}
use Rattle.atomic_table.specs.Seated.{TableId}
use Rattle.realm.specs.History.{History}
use Rattle.realm_inbox.specs.declared.act.Act.{Act}
use Rattle.ghost_state.specs.GhostList.{items_of}
use Rattle.realm_inbox.specs.Seats.{said}
use Rattle.realm_actor.specs.declared.row.Row.{Row}
use Rattle.realm_actor.specs.declared.state.ActorState.{ActorState}
use Rattle.realm_actor.specs.declared.table.Table.{Table}
use Rattle.realm_actor.specs.Tables.{Standing}
use Rattle.realm_actor.specs.Words.{Words}

-- which chronicle the realm's history is told to, the history, the rows of its sessions, the words that were drawn, whom the last post found full, or cut, and the acts
-- that were handled, each with its connection, the oldest first
pub record Acting (S : Type 0) : Type 0 where
  pub chronicle : TableId
  pub history : History
  pub rows : List (Row S)
  pub words : Words
  pub last_cut : List ℕ
  pub handled : List (ℕ × Act S)

-- what the handling of a post works on: the realm's history, the rows of its sessions, and the words that were drawn
pub record Working (S : Type 0) : Type 0 where
  pub history : History
  pub rows : List (Row S)
  pub words : Words

module _ {S : Type 0} where
  abbrev pub working_in : Acting S → Working S
  working_in a = record { history = a.history; rows = a.rows; words = a.words }

  abbrev pub standing_in : Working S → Standing S
  standing_in w = record { history = w.history; rows = w.rows }

-- what contracts see of an actor's fields, where these words were drawn
abbrev pub acting : {S W : Type 0} → Words → ActorState S W → Acting S
acting words s = record { chronicle = s.table.chronicle.chronicle; history = s.table.realm; rows = s.table.rows.items; words = words; last_cut = s.last_cut.items; handled = map said (items_of s.handled) }

-- what the handling of a post works on: of a table, where these words were drawn
abbrev pub working_on : {S : Type 0} → Words → Table S → Working S
working_on words t = record { history = t.realm; rows = t.rows.items; words = words }

-- the same of an actor's fields
abbrev pub working : {S W : Type 0} → Words → ActorState S W → Working S
working words s = working_on words s.table
