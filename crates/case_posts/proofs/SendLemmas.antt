-- A transport may go to other threads.
use denote.Param.Send.{IsSend, sendable}
use Rattle.std.proofs.Crossing.{crosses}
use Rattle.case_posts.specs.contracts.wire.Wire as Wire

pub wire_send : IsSend Wire.the_row
wire_send = search (crosses, sendable) depth 60
