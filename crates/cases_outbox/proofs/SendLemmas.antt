-- The adding end, with the numbers that it is to add, may go to another thread.
use denote.Param.Send.{IsSend, view_send, sendable}
use denote.Param.SendFields.{declared_send, as_row_send}
use Rattle.std.proofs.Crossing.{crosses}
use Rattle.outbox_queue.proofs.SendLemmas.{outbox_send}
use Rattle.cases_outbox.specs.contracts.ends.Adder as Adder
use Rattle.cases_outbox.specs.contracts.ends.Adder.TheInside as adder

pub adder_send : IsSend Adder.the_row
adder_send = view_send _ _ _ _ _ (declared_send adder.the_type (search (outbox_send, as_row_send, crosses, sendable) depth 60, (search (crosses, sendable) depth 60, (search sendable, tt))))
