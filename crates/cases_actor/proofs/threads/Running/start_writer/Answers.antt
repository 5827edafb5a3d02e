use denote.Exit.{no}
use denote.Param.Send.{param_send, arg_send}
use Rattle.cases_actor.proofs.SendLemmas.{writer_send, taken_send}
use Rattle.cases_actor.proofs.threads.Running.start_writer.Goals as goal

pub start-requires-send-W : goal.start-requires-send-W
start-requires-send-W g c κs within = param_send 2 _ (arg_send _ no _ writer_send)

pub start-requires-send-T : goal.start-requires-send-T
start-requires-send-T g c κs within = param_send 1 _ (arg_send _ no _ taken_send)
