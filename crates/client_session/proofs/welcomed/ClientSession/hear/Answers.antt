use Rattle.std.proofs.Common.{subst}
use Rattle.client_session.specs.Hearing.{heard_at, terms}
use Rattle.client_session.specs.Sessions.{HearsInSession, Welcomed}
use Rattle.client_session.proofs.SessionLemmas.{heard_judged}
use Rattle.client_session.proofs.welcomed.ClientSession.hear.Goals as goal

pub returns-in-Ok-clause-next : goal.returns-in-Ok-clause-next
returns-in-Ok-clause-next g c =
    let now = heard_at c.hear.new.self (g.I.Source.seen c.hear.new.source) (g.O.Sink.seen c.hear.new.sink) in
    subst (λ (s : Welcomed). HearsInSession (terms s.line.serializer s.line.limit) (heard_at s.line (g.I.Source.seen c.args.source.now) (g.O.Sink.seen c.args.sink.now)) now s.subscriptions c.judge.new.subscriptions.items c.judge.result)
    c.self.view_is
    (heard_judged (terms c.self.inside.link.serializer c.self.inside.link.limit) (heard_at c.self.inside.link (g.I.Source.seen c.args.source.now) (g.O.Sink.seen c.args.sink.now)) now c.self.inside.subscriptions.items
    c.judge.new.subscriptions.items c.in-Ok.heard c.judge.result c.in-Ok.ensures.next c.judge.ensures)
