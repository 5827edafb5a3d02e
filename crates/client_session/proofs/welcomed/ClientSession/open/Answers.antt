use Rattle.client_session.specs.Hearing.{heard_at, terms}
use Rattle.client_session.proofs.SessionLemmas.{unwelcome}
use Rattle.client_session.proofs.welcomed.ClientSession.open.Goals as goal

pub returns-in-Err-id_of-clause-refused : goal.returns-in-Err-id_of-clause-refused
returns-in-Err-id_of-clause-refused g c =
    unwelcome (terms c.args.link.serializer c.args.link.limit) (heard_at c.args.link (g.I.Source.seen c.args.source.now) (g.O.Sink.seen c.args.sink.now)) c.hear.new.self
    (g.I.Source.seen c.hear.new.source).given (g.O.Sink.seen c.hear.new.sink).taken c.in-Ok.heard c.in-Err-id_of.refusal c.in-Ok.ensures.next c.in-Err-id_of.ensures
