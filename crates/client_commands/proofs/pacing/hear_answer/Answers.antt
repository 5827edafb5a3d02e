use Rattle.client_commands.specs.Acts.{standing_of, terms_of}
use Rattle.client_commands.proofs.StopLemmas.{hears-another, misses-answer}
use Rattle.client_commands.proofs.pacing.hear_answer.Goals as goal

pub returns-in-Err-clause-another : goal.returns-in-Err-clause-another
returns-in-Err-clause-another g c =
    λ is. misses-answer (terms_of c.args.session.now) c.args.request (standing_of c.args.session.now (g.I.Source.seen c.args.source.now) (g.O.Sink.seen c.args.sink.now))
    (standing_of c.hear.new.session (g.I.Source.seen c.hear.new.source) (g.O.Sink.seen c.hear.new.sink)) c.in-Err.fault c.in-Err.ensures.unblamed is c.in-Err.ensures.stops

pub returns-clause-another : goal.returns-clause-another
returns-clause-another g c =
    λ is. hears-another (terms_of c.args.session.now) c.args.request (standing_of c.args.session.now (g.I.Source.seen c.args.source.now) (g.O.Sink.seen c.args.sink.now))
    (standing_of c.hear.new.session (g.I.Source.seen c.hear.new.source) (g.O.Sink.seen c.hear.new.sink)) c.in-Ok.heard c.fault_of.result c.in-Ok.ensures.next (c.is_published.ensures.other c.if-is_published.false) c.fault_of.ensures.why
