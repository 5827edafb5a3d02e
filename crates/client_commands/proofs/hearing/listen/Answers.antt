use Rattle.std.proofs.Common.{◌∙◌, ap}
use Rattle.client_session.proofs.SessionLemmas.{listened_in_session}
use Rattle.client_commands.specs.Acts.{standing_of, terms_of}
use Rattle.client_commands.specs.Faults.{sink_told, source_told}
use Rattle.client_commands.proofs.FaultLemmas.{failures_retold, of_hearing-read, of_hearing-write}
use Rattle.client_commands.proofs.StopLemmas.{stops-in-session}
use Rattle.client_commands.proofs.hearing.listen.Goals as goal

pub returns-in-Ok-clause-next : goal.returns-in-Ok-clause-next
returns-in-Ok-clause-next g c =
    listened_in_session (terms_of c.args.session.now) (standing_of c.args.session.now (g.I.Source.seen c.args.source.now) (g.O.Sink.seen c.args.sink.now))
    (standing_of c.listen.new.self (g.I.Source.seen c.listen.new.source) (g.O.Sink.seen c.listen.new.sink)) c.args.session.now.subscriptions c.listen.new.self.subscriptions c.in-Ok.heard c.in-Ok.ensures.next

pub returns-in-Ok-clause-reads : goal.returns-in-Ok-clause-reads
returns-in-Ok-clause-reads g c = c.in-Ok.ensures.reads.1.failures

pub returns-in-Ok-clause-writes : goal.returns-in-Ok-clause-writes
returns-in-Ok-clause-writes g c = c.in-Ok.ensures.writes.steps.failures

pub returns-in-Err-clause-reads : goal.returns-in-Err-clause-reads
returns-in-Err-clause-reads g c = failures_retold _ _ _ _ (ap source_told c.from.ensures ∙ of_hearing-read c.in-Err.unheard) c.in-Err.ensures.reads.1.failures

pub returns-in-Err-clause-writes : goal.returns-in-Err-clause-writes
returns-in-Err-clause-writes g c = failures_retold _ _ _ _ (ap sink_told c.from.ensures ∙ of_hearing-write c.in-Err.unheard) c.in-Err.ensures.writes.steps.failures

pub returns-in-Err-clause-stops : goal.returns-in-Err-clause-stops
returns-in-Err-clause-stops g c =
    stops-in-session (terms_of c.args.session.now) (standing_of c.args.session.now (g.I.Source.seen c.args.source.now) (g.O.Sink.seen c.args.sink.now))
    (standing_of c.listen.new.self (g.I.Source.seen c.listen.new.source) (g.O.Sink.seen c.listen.new.sink)) c.args.session.now.subscriptions c.listen.new.self.subscriptions c.in-Err.unheard _ c.from.ensures c.in-Err.ensures.next
