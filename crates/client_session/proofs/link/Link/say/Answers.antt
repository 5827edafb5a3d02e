use Rattle.rawsocket.proofs.Lemmas.{no_whole_steps, whole_fine}
use Rattle.client_session.specs.Hearing.{terms}
use Rattle.client_session.proofs.SessionLemmas.{unsaid_told}
use Rattle.client_session.proofs.link.Link.say.Goals as goal

pub returns-in-Err-clause-writes : goal.returns-in-Err-clause-writes
returns-in-Err-clause-writes g c =
    whole_fine (unsaid_told (terms c.self.inside.broker.serializer c.self.inside.broker.limit) c.args.said c.in-Err.fault c.in-Err.ensures.unsaid) (no_whole_steps _)
