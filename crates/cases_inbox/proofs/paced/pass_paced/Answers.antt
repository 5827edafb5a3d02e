use denote.Exit.{no}
use denote.Param.Send.{param_send, arg_send}
use Rattle.cases_inbox.proofs.SendLemmas.{paced_send}
use Rattle.cases_inbox.proofs.paced.pass_paced.Goals as goal

pub start-requires-send-W : goal.start-requires-send-W
start-requires-send-W g c κs within = param_send 2 _ (arg_send _ no _ paced_send)
