-- What an actor keeps between two posts.
use Rattle.std.specs.Prelude.{◌≡◌, true, false, ◌≤◌, List, map, length, vec_capacity}
use Rattle.ghost_state.specs.GhostList.{items_of}
use Rattle.realm.specs.History.{History}
use Rattle.realm_actor.specs.declared.row.Row.{Row}
use Rattle.realm_actor.specs.declared.state.ActorState.{ActorState}
use Rattle.realm_actor.specs.declared.table.Table.{Table}
use Rattle.realm_actor.specs.Rows.{Each}
use Rattle.realm.specs.Sessions.{live}
use Rattle.realm_actor.specs.Tables.{Sound}
use Rattle.realm_actor.specs.Cuts.{NoneFull}
use Rattle.realm_actor.specs.HistoryGrowth.{IsMade}
use Rattle.realm_inbox.specs.Seats.{said}
use Rattle.realm_actor.specs.LastCut.{NoMarks}

-- the rows are in step with the history, nobody who was found full is live, and no row is marked
pub record Stands {S : Type 0} (h : History) (rows : List (Row S)) : Type 0 where
  pub sound : Sound h rows
  pub none_full : NoneFull rows
  pub unmarked : NoMarks rows

-- there is room to name the connection of each row
abbrev pub IsRoomy : {S W : Type 0} → ActorState S W → Type 0
IsRoomy s = length s.table.rows.items ≤ vec_capacity s.last_cut

-- the history is what the acts that were handled made of it, and stops between them
abbrev pub WasMade : {S W : Type 0} → ActorState S W → Type 0
WasMade s = IsMade s.table.realm (map said (items_of s.handled))

-- the table's flags are right: where it knows of no mark there is none, and where it knows of no ended session each row's is live
pub record Knows {S : Type 0} (t : Table S) : Type 0 where
  pub marks : t.has_marks ≡ false → NoMarks t.rows.items
  pub ended : t.has_ended ≡ false → Each (λ r. live t.realm r.conn ≡ true) t.rows.items

-- a table's rows are in step with its history
abbrev pub IsSound : {S : Type 0} → Table S → Type 0
IsSound t = Sound t.realm t.rows.items

-- what stays of a table while entries enter: the chronicle that its history is told to, and that its flags are right
pub record KeepsTable {S : Type 0} (old new : Table S) : Type 0 where
  pub chronicle : new.chronicle.chronicle ≡ old.chronicle.chronicle
  pub knows : Knows old → Knows new

-- what stays of an actor's fields while a post is handled: what was handled before it, and what stays of the table
pub record KeepsRest {S W : Type 0} (old new : ActorState S W) : Type 0 where
  pub handled : new.handled ≡ old.handled
  pub table : KeepsTable old.table new.table
