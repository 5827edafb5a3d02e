use Rattle.std.proofs.Common.{◌∙◌, Err, ap}
use Rattle.client_commands.specs.Faults.{sink_told, source_told}
use Rattle.client_commands.specs.Acts.{standing_of, terms_of}
use Rattle.client_commands.proofs.StopLemmas.{stops-in-session}
use Rattle.client_commands.proofs.ContinuingLemmas.{continues-in-session}
use Rattle.client_commands.proofs.FaultLemmas.{of_hearing-read, of_hearing-write, retold}
use Rattle.client_commands.proofs.hearing.hear.Goals as goal

pub returns-in-Err-clause-reads : goal.returns-in-Err-clause-reads
returns-in-Err-clause-reads g c = retold (ap source_told c.from.ensures ∙ of_hearing-read c.in-Err.unheard) c.in-Err.ensures.reads

pub returns-in-Err-clause-writes : goal.returns-in-Err-clause-writes
returns-in-Err-clause-writes g c = retold (ap sink_told c.from.ensures ∙ of_hearing-write c.in-Err.unheard) c.in-Err.ensures.writes

pub returns-in-Err-clause-goes_on : goal.returns-in-Err-clause-goes_on
returns-in-Err-clause-goes_on g c =
    continues-in-session (terms_of c.args.session.now) (standing_of c.args.session.now (g.I.Source.seen c.args.source.now) (g.O.Sink.seen c.args.sink.now))
    (standing_of c.hear.new.self (g.I.Source.seen c.hear.new.source) (g.O.Sink.seen c.hear.new.sink)) c.args.session.now.subscriptions c.hear.new.self.subscriptions (Err c.in-Err.unheard) c.in-Err.ensures.next

pub returns-in-Err-clause-stops : goal.returns-in-Err-clause-stops
returns-in-Err-clause-stops g c =
    stops-in-session (terms_of c.args.session.now) (standing_of c.args.session.now (g.I.Source.seen c.args.source.now) (g.O.Sink.seen c.args.sink.now))
    (standing_of c.hear.new.self (g.I.Source.seen c.hear.new.source) (g.O.Sink.seen c.hear.new.sink)) c.args.session.now.subscriptions c.hear.new.self.subscriptions c.in-Err.unheard _ c.from.ensures c.in-Err.ensures.next
