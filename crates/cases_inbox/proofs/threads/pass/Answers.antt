use denote.Exit.{no}
use denote.Param.Send.{param_send, arg_send}
use Rattle.cases_inbox.proofs.SendLemmas.{numbered_send}
use Rattle.cases_inbox.proofs.threads.pass.Goals as goal

pub start-requires-send-W : goal.start-requires-send-W
start-requires-send-W g c κs within = param_send 2 _ (arg_send _ no _ numbered_send)

pub start-second-requires-send-W : goal.start-second-requires-send-W
start-second-requires-send-W g c κs within = param_send 2 _ (arg_send _ no _ numbered_send)
