-- A count may go to other threads.
use denote.Param.Send.{IsSend, sendable}
use Rattle.std.proofs.Crossing.{crosses}
use Rattle.ghost_state.proofs.ghost_count.CountTrail.TheLaws.TheKnot.{crosses as counts}
use Rattle.ghost_state.specs.contracts.ghost_count.GhostCount as GhostCount

pub count_send : IsSend GhostCount.the_row
count_send = search (counts, crosses, sendable) depth 60
