use Rattle.std.proofs.Common.{◌++◌, ◌∙◌, ap, refl}
use Rattle.session.specs.Opened.{exchange}
use Rattle.client_messages.specs.declared.client_message.ClientMessage.TheVariants.{GoodbyeAndOut}
use Rattle.client_session.specs.Saying.{saying}
use Rattle.client_commands.proofs.FaultLemmas.{runs-out-writing}
use Rattle.client_commands.proofs.StopLemmas.{unanswered}
use Rattle.client_commands.proofs.leaving.answer_goodbye.Goals as goal

pub returns-in-Ok-clause-answered : goal.returns-in-Ok-clause-answered
returns-in-Ok-clause-answered g c =
    λ given. (refl, ap (λ xs. exchange given xs) (c.in-Ok.ensures.said ∙ ap (λ l. (g.O.Sink.seen c.args.sink.now).taken ++ saying l.serializer GoodbyeAndOut) c.link.ensures))

pub returns-in-Err-clause-answered : goal.returns-in-Err-clause-answered
returns-in-Err-clause-answered g c =
    λ given. unanswered c.link.result.now c.args.session.now.line c.args.reason (exchange given (g.O.Sink.seen c.args.sink.now).taken) (exchange given (g.O.Sink.seen c.say.new.sink).taken)
    c.in-Err.fault c.link.ensures (c.in-Err.ensures.unsaid given)

pub returns-in-Err-clause-turns : goal.returns-in-Err-clause-turns
returns-in-Err-clause-turns g c =
    λ source. runs-out-writing source (g.O.Sink.seen c.args.sink.now) (g.O.Sink.seen c.say.new.sink) c.in-Err.fault c.in-Err.ensures.unread c.in-Err.ensures.writes
