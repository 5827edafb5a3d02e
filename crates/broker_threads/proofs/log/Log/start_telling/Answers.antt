use denote.Exit.{no}
use denote.Param.Send.{param_send, arg_send}
use Rattle.broker_threads.proofs.SendLemmas.{log_writer_send}
use Rattle.broker_threads.proofs.log.Log.start_telling.Goals as goal

pub start-requires-send-W : goal.start-requires-send-W
start-requires-send-W g c κs within = let s = c.type_bounds.send-S in param_send 1 _ (arg_send _ no _ (log_writer_send _ s))
