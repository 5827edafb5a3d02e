use denote.Exit.{no}
use denote.Param.Send.{param_send, arg_send}
use Rattle.cases_actor.proofs.SendLemmas.{publisher_send}
use Rattle.cases_actor.proofs.threads.Running.start_publisher.Goals as goal

pub start-requires-send-W : goal.start-requires-send-W
start-requires-send-W g c κs within = param_send 2 _ (arg_send _ no _ publisher_send)
