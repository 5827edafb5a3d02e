use Rattle.std.proofs.Common.{◌++◌, ◌∙◌, ap, sym}
use Rattle.session.specs.Opened.{exchanged}
use Rattle.client_session.specs.Saying.{saying}
use Rattle.client_commands.specs.Faults.{sink_told, source_told}
use Rattle.client_commands.proofs.FaultLemmas.{of_link-read, of_link-write, of_opening-read, of_opening-write, retold, runs-out, runs-out-writing}
use Rattle.client_commands.proofs.StopLemmas.{hello-unheard, hello-unsaid, no-handshake}
use Rattle.client_commands.proofs.joining.join.Goals as goal

pub returns-in-Err-clause-fails : goal.returns-in-Err-clause-fails
returns-in-Err-clause-fails g c =
    let contact = c.args.contact.now in
    no-handshake contact.serializer contact.realm contact.authid (exchanged (g.I.Source.seen c.args.source.now) (g.O.Sink.seen c.args.sink.now))
    (exchanged (g.I.Source.seen c.connect.new.source) (g.O.Sink.seen c.connect.new.sink)) c.in-Err.fault _ c.from.ensures c.in-Err.ensures.refused

pub returns-in-Err-clause-turns : goal.returns-in-Err-clause-turns
returns-in-Err-clause-turns g c =
    runs-out (g.I.Source.seen c.args.source.now) (g.I.Source.seen c.connect.new.source) (g.O.Sink.seen c.args.sink.now) (g.O.Sink.seen c.connect.new.sink) c.from.result
    (retold (ap source_told c.from.ensures ∙ of_link-read c.in-Err.fault) c.in-Err.ensures.reads) (retold (ap sink_told c.from.ensures ∙ of_link-write c.in-Err.fault) c.in-Err.ensures.writes)

pub returns-in-Err-say-clause-fails : goal.returns-in-Err-say-clause-fails
returns-in-Err-say-clause-fails g c =
    let contact = c.args.contact.now in
    hello-unsaid contact.serializer contact.realm contact.authid (exchanged (g.I.Source.seen c.args.source.now) (g.O.Sink.seen c.args.sink.now))
    (exchanged (g.I.Source.seen c.connect.new.source) (g.O.Sink.seen c.connect.new.sink)) (exchanged (g.I.Source.seen c.connect.new.source) (g.O.Sink.seen c.say.new.sink))
    c.in-Ok-connect.link c.in-Ok.said c.in-Err-say.fault c.in-Ok-connect.ensures.accepted c.in-Ok-connect.ensures.new c.in-Ok.ensures (c.in-Err-say.ensures.unsaid (g.I.Source.seen c.connect.new.source).given)

pub returns-in-Err-say-clause-turns : goal.returns-in-Err-say-clause-turns
returns-in-Err-say-clause-turns g c =
    runs-out-writing (g.I.Source.seen c.connect.new.source) (g.O.Sink.seen c.connect.new.sink) (g.O.Sink.seen c.say.new.sink) c.in-Err-say.fault c.in-Err-say.ensures.unread c.in-Err-say.ensures.writes

pub returns-in-Err-open-clause-fails : goal.returns-in-Err-open-clause-fails
returns-in-Err-open-clause-fails g c =
    let contact = c.args.contact.now in
    hello-unheard contact.serializer contact.realm contact.authid (exchanged (g.I.Source.seen c.args.source.now) (g.O.Sink.seen c.args.sink.now))
    (exchanged (g.I.Source.seen c.connect.new.source) (g.O.Sink.seen c.connect.new.sink)) (exchanged (g.I.Source.seen c.open.new.source) (g.O.Sink.seen c.open.new.sink))
    c.in-Ok-connect.link (g.O.Sink.seen c.say.new.sink).taken c.in-Err-open.refusal c.from-in-Err-open.result c.in-Ok-connect.ensures.accepted c.in-Ok-connect.ensures.new
    (c.in_default-say.ensures.said ∙ ap (λ m. (g.O.Sink.seen c.connect.new.sink).taken ++ saying c.in-Ok-connect.link.serializer m) c.in-Ok.ensures)
    c.in-Err-open.ensures.refused c.from-in-Err-open.ensures

pub returns-in-Err-open-clause-turns : goal.returns-in-Err-open-clause-turns
returns-in-Err-open-clause-turns g c =
    runs-out (g.I.Source.seen c.connect.new.source) (g.I.Source.seen c.open.new.source) (g.O.Sink.seen c.say.new.sink) (g.O.Sink.seen c.open.new.sink) c.from-in-Err-open.result
    (retold (ap source_told c.from-in-Err-open.ensures ∙ of_opening-read c.in-Err-open.refusal) c.in-Err-open.ensures.reads)
    (retold (ap sink_told c.from-in-Err-open.ensures ∙ of_opening-write c.in-Err-open.refusal) c.in-Err-open.ensures.writes)
