use Rattle.std.proofs.Common.{ap, arith, inr, refl, subst}
use Rattle.std.proofs.lemmas.Result.{IfErr-weaker, on_ok_weaker}
use Rattle.rawsocket.proofs.Lemmas.{no_whole_steps, whole_fine}
use Rattle.session.specs.Opened.{exchanged}
use Rattle.client_session.specs.Hearing.{Terms}
use Rattle.client_commands.specs.Acts.{Leaves, standing_of, terms_of}
use Rattle.client_commands.specs.Notes.{noting}
use Rattle.client_commands.proofs.ContinuingLemmas.{continues-begun, continues-still}
use Rattle.client_commands.proofs.ListeningLemmas.{asked-all, printed-after}
use Rattle.client_commands.proofs.StopLemmas.{ends-asked, ends-asking, ends-joining, told-closing, told-following, told-leaving}
use Rattle.client_commands.proofs.subscribing.subscribe.Goals as goal

pub returns-in-Err-clause-lines : goal.returns-in-Err-clause-lines
returns-in-Err-clause-lines g c = whole_fine c.in-Err.ensures.aside.output (no_whole_steps _)

pub returns-in-Err-ask-clause-lines : goal.returns-in-Err-ask-clause-lines
returns-in-Err-ask-clause-lines g c = whole_fine c.in-Err-ask.ensures.aside (no_whole_steps _)

pub returns-in-Ok-follow-clause-subscribes : goal.returns-in-Ok-follow-clause-subscribes
returns-in-Ok-follow-clause-subscribes g c =
    let command = c.args.command.now in
    let heard = standing_of c.follow.new.session (g.I.Source.seen c.follow.new.source) (g.O.Sink.seen c.follow.new.sink) in
    let left = standing_of c.leave.new.session (g.I.Source.seen c.leave.new.source) (g.O.Sink.seen c.leave.new.sink) in
    on_ok_weaker c.leave.result
    (λ leaves. record {
      t = terms_of c.in-Ok.session;
      asking = standing_of c.in-Ok.session (g.I.Source.seen c.join.new.source) (g.O.Sink.seen c.ask.new.sink);
      asks =
          asked-all command.contact.serializer c.link.result.now.serializer command.contact.realm command.contact.authid command.wishes command.topics.items (exchanged (g.I.Source.seen c.args.source.now) (g.O.Sink.seen c.args.sink.now)) c.in-Ok.session
          (g.I.Source.seen c.join.new.source).given (g.O.Sink.seen c.join.new.sink).taken (g.O.Sink.seen c.ask.new.sink).taken c.in-Ok.ensures.joined (ap (λ l. l.serializer) c.link.ensures) c.in_default.ensures.asked;
      heard = heard;
      follows = c.in-Ok-follow.ensures.follows;
      left = left;
      leaves = subst (λ (t : Terms). Leaves t heard left) c.follow.ensures.terms leaves;
      given = refl;
      taken = refl;
    })
    c.leave.ensures.left

pub returns-in-Closed-clause-prints : goal.returns-in-Closed-clause-prints
returns-in-Closed-clause-prints g c =
    let command = c.args.command.now in
    inr (printed-after command.contact.serializer c.link.result.now.serializer command.contact.realm command.contact.authid command.wishes command.form command.topics.items (exchanged (g.I.Source.seen c.args.source.now) (g.O.Sink.seen c.args.sink.now))
    (exchanged (g.I.Source.seen c.follow.new.source) (g.O.Sink.seen c.follow.new.sink)) (exchanged (g.I.Source.seen c.follow.new.source) (g.O.Sink.seen c.answer_goodbye.new.sink)) c.in-Ok.session
    (g.I.Source.seen c.join.new.source).given (g.O.Sink.seen c.join.new.sink).taken (g.O.Sink.seen c.ask.new.sink).taken (g.P.Sink.seen c.args.output.now).taken (g.P.Sink.seen c.follow.new.output).taken
    (noting (g.N.Sink.seen c.args.notes.now)) (noting (g.N.Sink.seen c.follow.new.notes)) c.args.listener.now.left c.follow.new.listener
    c.in-Ok.ensures.joined (ap (λ l. l.serializer) c.link.ensures) c.in_default.ensures.asked c.follow.ensures.prints
    (continues-begun (g.I.Source.seen c.follow.new.source).given (g.O.Sink.seen c.follow.new.sink).taken _ (g.O.Sink.seen c.answer_goodbye.new.sink).taken c.answer_goodbye.ensures.begun))

pub returns-in-Ok-follow-clause-prints : goal.returns-in-Ok-follow-clause-prints
returns-in-Ok-follow-clause-prints g c =
    let command = c.args.command.now in
    inr (printed-after command.contact.serializer c.link.result.now.serializer command.contact.realm command.contact.authid command.wishes command.form command.topics.items (exchanged (g.I.Source.seen c.args.source.now) (g.O.Sink.seen c.args.sink.now))
    (exchanged (g.I.Source.seen c.follow.new.source) (g.O.Sink.seen c.follow.new.sink)) (exchanged (g.I.Source.seen c.leave.new.source) (g.O.Sink.seen c.leave.new.sink)) c.in-Ok.session
    (g.I.Source.seen c.join.new.source).given (g.O.Sink.seen c.join.new.sink).taken (g.O.Sink.seen c.ask.new.sink).taken (g.P.Sink.seen c.args.output.now).taken (g.P.Sink.seen c.follow.new.output).taken
    (noting (g.N.Sink.seen c.args.notes.now)) (noting (g.N.Sink.seen c.follow.new.notes)) c.args.listener.now.left c.follow.new.listener
    c.in-Ok.ensures.joined (ap (λ l. l.serializer) c.link.ensures) c.in_default.ensures.asked c.follow.ensures.prints
    c.leave.ensures.goes_on)

pub returns-in-Err-clause-ends : goal.returns-in-Err-clause-ends
returns-in-Err-clause-ends g c =
    ends-joining c.args.command.now (exchanged (g.I.Source.seen c.args.source.now) (g.O.Sink.seen c.args.sink.now)) (exchanged (g.I.Source.seen c.join.new.source) (g.O.Sink.seen c.join.new.sink))
    (g.P.Sink.seen c.args.output.now).taken (g.P.Sink.seen c.args.output.now).taken (noting (g.N.Sink.seen c.args.notes.now)) (noting (g.N.Sink.seen c.args.notes.now)) c.args.listener.now.left c.args.listener.now.left c.in-Err.fault
    refl refl refl c.in-Err.ensures.fails

pub returns-in-Err-ask-clause-ends : goal.returns-in-Err-ask-clause-ends
returns-in-Err-ask-clause-ends g c =
    ends-asking c.args.command.now (exchanged (g.I.Source.seen c.args.source.now) (g.O.Sink.seen c.args.sink.now)) (exchanged (g.I.Source.seen c.join.new.source) (g.O.Sink.seen c.ask.new.sink))
    (g.P.Sink.seen c.args.output.now).taken (g.P.Sink.seen c.args.output.now).taken (noting (g.N.Sink.seen c.args.notes.now)) (noting (g.N.Sink.seen c.args.notes.now)) c.args.listener.now.left c.args.listener.now.left c.in-Err-ask.fault
    c.in-Ok.session c.link.result.now (exchanged (g.I.Source.seen c.join.new.source) (g.O.Sink.seen c.join.new.sink)) c.in-Ok.ensures.joined c.link.ensures refl refl refl
    (c.in-Err-ask.ensures.unasked (g.I.Source.seen c.join.new.source).given)

pub returns-in-Err-ask-clause-turns : goal.returns-in-Err-ask-clause-turns
returns-in-Err-ask-clause-turns g c = c.in-Err-ask.ensures.turns (g.I.Source.seen c.join.new.source)

pub returns-in-Closed-clause-ends : goal.returns-in-Closed-clause-ends
returns-in-Closed-clause-ends g c =
    let command = c.args.command.now in
    let t = terms_of c.in-Ok.session in
    let asking = standing_of c.in-Ok.session (g.I.Source.seen c.join.new.source) (g.O.Sink.seen c.ask.new.sink) in
    let mid = exchanged (g.I.Source.seen c.follow.new.source) (g.O.Sink.seen c.follow.new.sink) in
    let last = exchanged (g.I.Source.seen c.follow.new.source) (g.O.Sink.seen c.answer_goodbye.new.sink) in
    let lines_before = (g.P.Sink.seen c.args.output.now).taken in
    let lines = (g.P.Sink.seen c.follow.new.output).taken in
    let notes_before = noting (g.N.Sink.seen c.args.notes.now) in
    let notes = noting (g.N.Sink.seen c.follow.new.notes) in
    let left = c.args.listener.now.left in
    ends-asked command (exchanged (g.I.Source.seen c.args.source.now) (g.O.Sink.seen c.args.sink.now)) last lines_before lines notes_before notes left c.follow.new.listener.left c.answer_goodbye.result
    c.in-Ok.session c.link.result.now.serializer (g.I.Source.seen c.join.new.source).given (g.O.Sink.seen c.join.new.sink).taken (g.O.Sink.seen c.ask.new.sink).taken c.in-Ok.ensures.joined (ap (λ l. l.serializer) c.link.ensures) c.in_default.ensures.asked
    (told-closing command.form command.topics.items t asking lines_before lines notes_before notes left c.follow.new.listener.left (terms_of c.follow.new.session) mid last _ c.in-Err-follow.fault c.answer_goodbye.result
    c.follow.ensures.terms c.in-Closed.is (c.answer_goodbye.ensures.answered (g.I.Source.seen c.follow.new.source).given) c.in-Err-follow.ensures.stops)

pub returns-in-Closed-clause-turns : goal.returns-in-Closed-clause-turns
returns-in-Closed-clause-turns g c = c.answer_goodbye.ensures.turns (g.I.Source.seen c.follow.new.source)

pub returns-in-Ok-follow-clause-ends : goal.returns-in-Ok-follow-clause-ends
returns-in-Ok-follow-clause-ends g c =
    let command = c.args.command.now in
    let t = terms_of c.in-Ok.session in
    let asking = standing_of c.in-Ok.session (g.I.Source.seen c.join.new.source) (g.O.Sink.seen c.ask.new.sink) in
    let heard = standing_of c.follow.new.session (g.I.Source.seen c.follow.new.source) (g.O.Sink.seen c.follow.new.sink) in
    let last = exchanged (g.I.Source.seen c.leave.new.source) (g.O.Sink.seen c.leave.new.sink) in
    let lines_before = (g.P.Sink.seen c.args.output.now).taken in
    let lines = (g.P.Sink.seen c.follow.new.output).taken in
    let notes_before = noting (g.N.Sink.seen c.args.notes.now) in
    let notes = noting (g.N.Sink.seen c.follow.new.notes) in
    let left = c.args.listener.now.left in
    IfErr-weaker c.leave.result _ _
    (λ fault fails. ends-asked command (exchanged (g.I.Source.seen c.args.source.now) (g.O.Sink.seen c.args.sink.now)) last lines_before lines notes_before notes left c.follow.new.listener.left fault
    c.in-Ok.session c.link.result.now.serializer (g.I.Source.seen c.join.new.source).given (g.O.Sink.seen c.join.new.sink).taken (g.O.Sink.seen c.ask.new.sink).taken c.in-Ok.ensures.joined (ap (λ l. l.serializer) c.link.ensures) c.in_default.ensures.asked
    (told-leaving command.form command.topics.items t asking lines_before lines notes_before notes left c.follow.new.listener.left (terms_of c.follow.new.session) heard last fault
    c.in-Ok-follow.ensures.follows c.in-Ok-follow.ensures.done c.follow.ensures.terms fails))
    c.leave.ensures.fails

pub returns : goal.returns
returns g c =
    let command = c.args.command.now in
    record {
      subscribes = tt;
      prints =
          inr (printed-after command.contact.serializer c.link.result.now.serializer command.contact.realm command.contact.authid command.wishes command.form command.topics.items (exchanged (g.I.Source.seen c.args.source.now) (g.O.Sink.seen c.args.sink.now))
          (exchanged (g.I.Source.seen c.follow.new.source) (g.O.Sink.seen c.follow.new.sink)) (exchanged (g.I.Source.seen c.follow.new.source) (g.O.Sink.seen c.follow.new.sink)) c.in-Ok.session
          (g.I.Source.seen c.join.new.source).given (g.O.Sink.seen c.join.new.sink).taken (g.O.Sink.seen c.ask.new.sink).taken (g.P.Sink.seen c.args.output.now).taken (g.P.Sink.seen c.follow.new.output).taken
          (noting (g.N.Sink.seen c.args.notes.now)) (noting (g.N.Sink.seen c.follow.new.notes)) c.args.listener.now.left c.follow.new.listener
          c.in-Ok.ensures.joined (ap (λ l. l.serializer) c.link.ensures) c.in_default.ensures.asked c.follow.ensures.prints
          (continues-still (exchanged (g.I.Source.seen c.follow.new.source) (g.O.Sink.seen c.follow.new.sink))));
      ends = ends-asked command (exchanged (g.I.Source.seen c.args.source.now) (g.O.Sink.seen c.args.sink.now)) (exchanged (g.I.Source.seen c.follow.new.source) (g.O.Sink.seen c.follow.new.sink)) (g.P.Sink.seen c.args.output.now).taken (g.P.Sink.seen c.follow.new.output).taken
          (noting (g.N.Sink.seen c.args.notes.now)) (noting (g.N.Sink.seen c.follow.new.notes)) c.args.listener.now.left c.follow.new.listener.left c.in-Err-follow.fault c.in-Ok.session c.link.result.now.serializer (g.I.Source.seen c.join.new.source).given (g.O.Sink.seen c.join.new.sink).taken (g.O.Sink.seen c.ask.new.sink).taken
          c.in-Ok.ensures.joined (ap (λ l. l.serializer) c.link.ensures) c.in_default.ensures.asked
          (told-following command.form command.topics.items (terms_of c.in-Ok.session) (standing_of c.in-Ok.session (g.I.Source.seen c.join.new.source) (g.O.Sink.seen c.ask.new.sink)) (g.P.Sink.seen c.args.output.now).taken (g.P.Sink.seen c.follow.new.output).taken
          (noting (g.N.Sink.seen c.args.notes.now)) (noting (g.N.Sink.seen c.follow.new.notes)) c.args.listener.now.left c.follow.new.listener.left (exchanged (g.I.Source.seen c.follow.new.source) (g.O.Sink.seen c.follow.new.sink)) c.in-Err-follow.fault (λ reason is. c.in_default-fault.not-Closed reason is)
          c.in-Err-follow.ensures.stops);
      done = tt;
      gone = c.in-Err-follow.ensures.gone;
      turns = c.in-Err-follow.ensures.turns;
      reads = omega (arith, c.in-Ok.ensures.reads, c.in-Err-follow.ensures.reads);
      writes = omega (arith, c.in-Ok.ensures.writes, c.in_default.ensures.writes, c.in-Err-follow.ensures.writes);
      lines = c.in-Err-follow.ensures.lines;
    }
