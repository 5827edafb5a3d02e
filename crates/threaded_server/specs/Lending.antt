-- The streams that an acceptor gives away, and those that were let go of.
use Rattle.std.specs.Prelude.{ℕ, ◌+◌, List, [], ◌∷◌, ◌++◌, length, map}
use Rattle.std.specs.declared.snapshot.Snapshot.{Snapshot}
use Rattle.broker_threads.specs.declared.stream_fate.StreamFate.{StreamFate}
use Rattle.ghost_state.specs.GhostList.{items_of}
use Rattle.threaded_server.specs.declared.account.Account.{Account}

-- a stream that was let go of: its two halves, as they were last, and what became of it
pub record Returned (I O : Type 0) : Type 0 where
  pub source : I
  pub sink : O
  pub fate : StreamFate

abbrev pub returned : {I O : Type 0} → I → O → StreamFate → Returned I O
returned source sink fate = record { source = source; sink = sink; fate = fate }

-- the two halves of each stream that was taken apart, in their order, as they were then; those that were let go of, in the order of that; and how many
-- streams couldn't be taken apart, for want of memory
pub record Lending (I O : Type 0) : Type 0 where
  pub lent : List (I × O)
  pub returned : List (Returned I O)
  pub refused : ℕ

module _ {I O : Type 0} where
  abbrev pub none_lent : Lending I O
  none_lent = record { lent = []; returned = []; refused = 0 }

  abbrev pub returned_to : Lending I O → List (Returned I O)
  returned_to l = l.returned

  abbrev pub with_lent : Lending I O → I × O → Lending I O
  with_lent l halves = record l { lent = l.lent ++ halves ∷ [] }

  abbrev pub with_returned : Lending I O → Returned I O → Lending I O
  with_returned l back = record l { returned = l.returned ++ back ∷ [] }

  abbrev pub with_refused : Lending I O → Lending I O
  with_refused l = record l { refused = l.refused + 1 }

  -- what snapshots show of one
  abbrev pub shown : Snapshot I × Snapshot O × StreamFate → Returned I O
  shown back = returned back.0.value back.1.value back.2

  abbrev pub lending_of : Account I O → Lending I O
  lending_of a = record { lent = items_of a.lent; returned = map shown (items_of a.returned); refused = a.refused }

  -- how many had been let go of when accepting was asked last
  abbrev pub asked_of : Account I O → ℕ
  asked_of a = length (items_of a.asked.value)
