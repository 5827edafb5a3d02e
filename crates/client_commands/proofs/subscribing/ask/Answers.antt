use Rattle.std.proofs.Common.{◌≡◌, ◌<◌, ◌+◌, ◌∙◌, [], ap, get_or, length, rules}
use Rattle.std.proofs.lemmas.List.{get_or_default}
use Rattle.client_messages.specs.Wishes.{subscribe_options}
use Rattle.client_messages.specs.declared.client_message.ClientMessage.TheVariants.{Subscribe}
use Rattle.client_session.specs.Hearing.{terms}
use Rattle.client_commands.proofs.FaultLemmas.{runs-out-writing}
use Rattle.client_commands.proofs.StopLemmas.{asks-partly}
use Rattle.client_commands.proofs.subscribing.ask.Goals as goal

pub returns-in-Err-clause-unasked : goal.returns-in-Err-clause-unasked
returns-in-Err-clause-unasked g c =
    let l = c.args.link.now in
    let command = c.args.command.now in
    let place = c.topics.place in
    let among : place < length command.topics.items = search rules in
    let topic_is : c.index-topic.result.now ≡ get_or command.topics.items place [] = c.index-topic.ensures ∙ get_or_default command.topics.items place c.index-topic.result.now [] among in
    let said_is : c.in-Ok-request_for.said ≡ Subscribe (place + 1) (subscribe_options command.wishes) (get_or command.topics.items place []) =
    c.in-Ok-request_for.ensures ∙ ap (λ r. Subscribe r (subscribe_options command.wishes) c.index-topic.result.now) c.in-Ok.ensures.value
    ∙ ap (λ x. Subscribe (place + 1) (subscribe_options command.wishes) x) topic_is in
    λ given. asks-partly (terms l.serializer l.limit) command.wishes command.topics.items given (g.O.Sink.seen c.args.sink.now).taken (g.O.Sink.seen c.topics.sink).taken (g.O.Sink.seen c.say.new.sink).taken
    place c.in-Ok-request_for.said c.in-Err.fault among said_is c.topics.invariant.said (c.in-Err.ensures.unsaid given)

pub returns-in-Err-clause-turns : goal.returns-in-Err-clause-turns
returns-in-Err-clause-turns g c =
    λ source. runs-out-writing source (g.O.Sink.seen c.topics.sink) (g.O.Sink.seen c.say.new.sink) c.in-Err.fault c.in-Err.ensures.unread c.in-Err.ensures.writes
