use denote.Exit.{no}
use denote.Param.Send.{param_send, arg_send, sendable}
use denote.Param.{param, copied}
use Rattle.broker_threads.proofs.SendLemmas.{reader_send, ended_send, both_send}
use Rattle.broker_threads.specs.contracts.reader_thread.Reader as Reader
use Rattle.threaded_server.proofs.starting.start_reader.Goals as goal

pub spawn_with-requires-send-F : goal.spawn_with-requires-send-F
spawn_with-requires-send-F g c κs within =
    let r = c.type_bounds.send-R in
    param_send 2 _ (arg_send _ no _ (both_send _ (Reader.the_row (param 1 g.row.I) (param 2 g.row.O) (param 3 g.row.S) g.S.Shut) (copied 0 g.row.R)
    (reader_send (param 1 g.row.I) (param 2 g.row.O) (param 3 g.row.S) g.S.Shut c.type_bounds.send-I c.type_bounds.send-O c.type_bounds.send-S)
    (search (r, sendable) depth 20)))

pub spawn_with-requires-send-T : goal.spawn_with-requires-send-T
spawn_with-requires-send-T g c κs within = param_send 3 _ (arg_send _ no _ (ended_send (param 1 g.row.I) (param 2 g.row.O) (param 3 g.row.S) g.S.Shut c.type_bounds.send-S))
