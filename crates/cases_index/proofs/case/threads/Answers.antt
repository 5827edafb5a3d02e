use denote.Param.Send.{sendable}
use Rattle.std.proofs.Crossing.{crosses}
use Rattle.wamp_messages.proofs.SendLemmas.{shared_send, shared_sync}
use Rattle.cases_index.proofs.case.threads.Goals as goal

pub may_be_shared-requires-2-send-T : goal.may_be_shared-requires-2-send-T
may_be_shared-requires-2-send-T c κs = search (shared_send, shared_sync, crosses, sendable) depth 60 fits 20000

pub may_be_shared-requires-2-sync-T : goal.may_be_shared-requires-2-sync-T
may_be_shared-requires-2-sync-T c κs = search (shared_send, shared_sync, crosses, sendable) depth 60 fits 20000
