use denote.Param.Send.{sendable}
use Rattle.std.proofs.Crossing.{crosses}
use Rattle.wamp_messages.proofs.SendLemmas.{publication_sync, said_send, said_sync}
use Rattle.cases_session.proofs.publishing.threads.Goals as goal

pub may_be_shared-requires-send-T : goal.may_be_shared-requires-send-T
may_be_shared-requires-send-T c κs = search (said_send, crosses, sendable) depth 60 fits 20000

pub may_be_shared-requires-sync-T : goal.may_be_shared-requires-sync-T
may_be_shared-requires-sync-T c κs = search (said_sync, crosses, sendable) depth 60 fits 20000

pub may_be_shared-requires-2-sync-T : goal.may_be_shared-requires-2-sync-T
may_be_shared-requires-2-sync-T c κs = search (publication_sync, crosses, sendable) depth 60 fits 20000
