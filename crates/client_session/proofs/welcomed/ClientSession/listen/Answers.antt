use Rattle.std.proofs.Common.{Ok, Result, subst, sym}
use Rattle.client_messages.specs.declared.heard.Heard.{Heard}
use Rattle.client_session.specs.Hearing.{HearsNext, heard_at, terms}
use Rattle.client_session.specs.Sessions.{HearsInSession, ListensInSession, Welcomed}
use Rattle.client_session.specs.declared.welcomed.Unheard.{Unheard}
use Rattle.client_session.proofs.SessionLemmas.{heard_judged}
use Rattle.client_session.proofs.welcomed.ClientSession.listen.Goals.{in-Ok, in-Err-judge}
use Rattle.client_session.proofs.welcomed.ClientSession.listen.Goals as goal

pub returns-after-judge-clause-next : goal.returns-after-judge-clause-next
returns-after-judge-clause-next g c =
    let self = c.args.self.now in
    let t = terms self.line.serializer self.line.limit in
    let before = heard_at self.line (g.I.Source.seen c.args.source.now) (g.O.Sink.seen c.args.sink.now) in
    let now = heard_at c.listen.new.self (g.I.Source.seen c.listen.new.source) (g.O.Sink.seen c.listen.new.sink) in
    let link = c.self.inside.link in
    let here = heard_at link (g.I.Source.seen c.args.source.now) (g.O.Sink.seen c.args.sink.now) in
    let given = c.judge.new.subscriptions.items in
    let next : HearsNext (terms link.serializer link.limit) here now (Ok c.in-Ok-Some.heard) = rw c.in-Ok-Some.field-0-is at c.in-Ok-Some.ensures.next in
    let judged : HearsInSession t before now self.subscriptions given c.judge.result =
    subst (λ (s : Welcomed). HearsInSession (terms s.line.serializer s.line.limit) (heard_at s.line (g.I.Source.seen c.args.source.now) (g.O.Sink.seen c.args.sink.now)) now s.subscriptions given c.judge.result)
    c.self.view_is (heard_judged (terms link.serializer link.limit) here now c.self.inside.subscriptions.items given c.in-Ok-Some.heard c.judge.result next c.judge.ensures) in
    elim c.match-judge.branch [
      | in-Ok w ↦ subst (λ r. ListensInSession t before now self.subscriptions given r) (sym w.result-is)
          (subst (λ (r : Result Heard Unheard). HearsInSession t before now self.subscriptions given r) w.in-Ok.is judged)
      | in-Err-judge w ↦ subst (λ r. ListensInSession t before now self.subscriptions given r) (sym w.result-is)
          (subst (λ (r : Result Heard Unheard). HearsInSession t before now self.subscriptions given r) w.in-Err-judge.is judged)
    ]
