use denote.Exit.{no}
use denote.Param.Send.{param_send, arg_send}
use Rattle.cases_inbox.proofs.SendLemmas.{door_send, seat_send, poster_send, inbox_send}
use Rattle.cases_inbox.proofs.case.ends_cross.Goals as goal

pub may_be_sent-requires-send-T : goal.may_be_sent-requires-send-T
may_be_sent-requires-send-T c κs = param_send 0 _ (arg_send _ no _ door_send)

pub may_be_sent-requires-2-send-T : goal.may_be_sent-requires-2-send-T
may_be_sent-requires-2-send-T c κs = param_send 0 _ (arg_send _ no _ seat_send)

pub may_be_sent-requires-3-send-T : goal.may_be_sent-requires-3-send-T
may_be_sent-requires-3-send-T c κs = param_send 0 _ (arg_send _ no _ poster_send)

pub may_be_sent-requires-4-send-T : goal.may_be_sent-requires-4-send-T
may_be_sent-requires-4-send-T c κs = param_send 0 _ (arg_send _ no _ inbox_send)
