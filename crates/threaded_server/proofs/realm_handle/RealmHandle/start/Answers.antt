use denote.Exit.{no}
use denote.Param.Send.{param_send, arg_send}
use denote.Param.{param}
use Rattle.broker_threads.proofs.SendLemmas.{actor_work_send, actor_done_send}
use Rattle.threaded_server.proofs.realm_handle.RealmHandle.start.Goals as goal

pub start-requires-send-W : goal.start-requires-send-W
start-requires-send-W g c κs within = param_send 1 _ (arg_send _ no _ (actor_work_send _ _ c.type_bounds.send-S))

pub start-requires-send-W-Done : goal.start-requires-send-W-Done
start-requires-send-W-Done g c κs within = param_send 2 _ (arg_send _ no _ (actor_done_send (param 0 g.row.S) g.S.Shut c.type_bounds.send-S))
