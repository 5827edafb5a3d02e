use Rattle.std.proofs.Common.{rules}
use denote.Exit.{no}
use denote.Param.Send.{param_send, arg_send, sendable}
use denote.Param.{param, copied}
use Rattle.broker_threads.proofs.SendLemmas.{writer_send, written_send, both_send}
use Rattle.broker_threads.specs.contracts.writer_thread.Writer as Writer
use Rattle.broker_threads.proofs.talk.begin.Goals as goal

pub spawn_with-requires-send-F : goal.spawn_with-requires-send-F
spawn_with-requires-send-F g c κs within =
    let r = c.type_bounds.send-R in
    param_send 2 _ (arg_send _ no _ (both_send _ (Writer.the_row (param 1 g.row.O) (param 2 g.row.S)) (copied 0 g.row.R)
    (writer_send (param 1 g.row.O) (param 2 g.row.S) c.type_bounds.send-O c.type_bounds.send-S)
    (search (r, sendable) depth 20)))

pub spawn_with-requires-send-T : goal.spawn_with-requires-send-T
spawn_with-requires-send-T g c κs within = param_send 3 _ (arg_send _ no _ (written_send (param 1 g.row.O)))

pub returns-in-Err-spawn_with : goal.returns-in-Err-spawn_with
returns-in-Err-spawn_with g c = record { joining = c.in-Ok.parts.0.joining; writer = c.in-Ok.parts.1; begins = c.in-Ok.ensures.begins; writes = search rules }
