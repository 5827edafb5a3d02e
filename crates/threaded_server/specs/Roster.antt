-- The connections that are served.
use Rattle.std.specs.Prelude.{◌≡◌, ℕ, List, [], ◌∷◌, ◌++◌, Option, Some}
use Rattle.std.specs.Arc.{arc_value}
use Rattle.std.specs.declared.snapshot.Snapshot.{Snapshot}
use Rattle.broker_threads.specs.Streams.{Reads, Sight}
use Rattle.threaded_server.specs.declared.entry.Connection.{Connection}
use Rattle.threaded_server.specs.declared.over.Over.{Over}
use Rattle.threaded_server.specs.declared.over.Over.TheVariants.{Seated}
use Rattle.broker_threads.specs.declared.plan.Plan.{Plan}
use Rattle.broker_threads.specs.declared.reader_thread.Ended.{Ended}

module _ {I O S : Type 0} where
  -- the halves of the stream of a connection, as it was lent
  abbrev pub halves_of : Connection I O S → I × O
  halves_of entry = (entry.began.value.source, entry.began.value.sink)

  -- it is served by this plan
  abbrev pub IsOfPlan : Plan → Connection I O S → Type 0
  IsOfPlan plan entry = arc_value entry.began.value.plan ≡ plan

  -- the connection of this number, which is at a place, leaves it: its reader gave back what it should, and its stream is over by that
  pub record Leaves (see : Sight I O) (place : Option (Option (Connection I O S))) (conn : ℕ) (ended : Ended I O S) (before now : List (Over I O S)) : Type 0 where
    pub entry : Connection I O S
    pub held : place ≡ Some (Some entry)
    pub number : conn ≡ entry.began.value.conn
    pub reads : Reads see entry.began.value ended
    pub left : Snapshot (Ended I O S)
    pub left_is : left.value ≡ ended
    pub over : now ≡ before ++ Seated entry.began left ∷ []
