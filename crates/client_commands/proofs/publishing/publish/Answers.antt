use Rattle.std.proofs.Common.{◌≡◌, ap, inl, inr, refl, subst}
use Rattle.std.proofs.lemmas.Result.{IfErr-weaker, on_ok_weaker}
use Rattle.rawsocket.proofs.Lemmas.{no_whole_steps, whole_fine}
use Rattle.session.specs.Opened.{exchanged}
use Rattle.client_session.specs.Hearing.{Terms}
use Rattle.client_commands.specs.Acts.{Leaves, standing_of, terms_of}
use Rattle.client_commands.specs.Ends.{EndsInAll}
use Rattle.client_commands.specs.Faults.{is_blamed}
use Rattle.client_commands.specs.declared.fault.Fault.{Fault}
use Rattle.client_commands.specs.declared.fault.Fault.TheVariants.{BadLine, Closed}
use Rattle.client_commands.proofs.EndsLemmas.{ends-at-once, ends-closing, ends-leaving, ends-publishing}
use Rattle.client_commands.proofs.publishing.publish.Goals as goal

pub returns-in-Err-clause-lines : goal.returns-in-Err-clause-lines
returns-in-Err-clause-lines g c = whole_fine c.in-Err.ensures.aside.input (no_whole_steps _)

pub returns-in-Ok-publish_all-clause-publishes : goal.returns-in-Ok-publish_all-clause-publishes
returns-in-Ok-publish_all-clause-publishes g c =
    let published = standing_of c.publish_all.new.session (g.I.Source.seen c.publish_all.new.source) (g.O.Sink.seen c.publish_all.new.sink) in
    let left = standing_of c.leave.new.session (g.I.Source.seen c.leave.new.source) (g.O.Sink.seen c.leave.new.sink) in
    on_ok_weaker c.leave.result
    (λ leaves. record {
      joined = exchanged (g.I.Source.seen c.join.new.source) (g.O.Sink.seen c.join.new.sink);
      session = c.in-Ok.session;
      joins = c.in-Ok.ensures.joined;
      published = published;
      publishes = c.in-Ok-publish_all.ensures.published;
      left = left;
      leaves = subst (λ (t : Terms). Leaves t published left) c.publish_all.ensures.terms leaves;
      given_is = refl;
      taken_is = refl;
    })
    c.leave.ensures.left

pub returns-in-Ok-publish_all-clause-ended : goal.returns-in-Ok-publish_all-clause-ended
returns-in-Ok-publish_all-clause-ended g c = on_ok_weaker c.leave.result (λ _. c.in-Ok-publish_all.ensures.ended) c.leave.ensures.left

pub returns-in-Err-clause-ends : goal.returns-in-Err-clause-ends
returns-in-Err-clause-ends g c = λ is. inl (c.in-Err.ensures.fails, c.in-Err.ensures.turns)

pub returns-in-Ok-publish_all-clause-ends : goal.returns-in-Ok-publish_all-clause-ends
returns-in-Ok-publish_all-clause-ends g c =
    let published = standing_of c.publish_all.new.session (g.I.Source.seen c.publish_all.new.source) (g.O.Sink.seen c.publish_all.new.sink) in
    IfErr-weaker c.leave.result _ _
    (λ fault fails. λ is. inr (ends-leaving c.args.command.now (exchanged (g.I.Source.seen c.args.source.now) (g.O.Sink.seen c.args.sink.now))
    c.in-Ok.session (g.I.Source.seen c.join.new.source).given (g.O.Sink.seen c.join.new.sink).taken (g.J.Source.seen c.args.input.now).given (g.J.Source.seen c.publish_all.new.input).given (g.J.Source.seen c.publish_all.new.input).is_ended (terms_of c.publish_all.new.session) published
    (exchanged (g.I.Source.seen c.leave.new.source) (g.O.Sink.seen c.leave.new.sink)) fault c.in-Ok.ensures.joined c.publish_all.ensures.terms (inl c.in-Ok-publish_all.ensures.published) fails))
    c.leave.ensures.fails

pub returns-in-Ok-leave-clause-ends : goal.returns-in-Ok-leave-clause-ends
returns-in-Ok-leave-clause-ends g c =
    let command = c.args.command.now in
    let given_before = (g.J.Source.seen c.args.input.now).given in
    let given_now = (g.J.Source.seen c.publish_all.new.input).given in
    let over = (g.J.Source.seen c.publish_all.new.input).is_ended in
    let joined = standing_of c.in-Ok.session (g.I.Source.seen c.join.new.source) (g.O.Sink.seen c.join.new.sink) in
    let published = standing_of c.publish_all.new.session (g.I.Source.seen c.publish_all.new.source) (g.O.Sink.seen c.publish_all.new.sink) in
    let bad : c.in-Err-publish_all.fault ≡ BadLine c.in-BadLine.line = c.in-BadLine.is in
    λ _. inr (ends-publishing command (exchanged (g.I.Source.seen c.args.source.now) (g.O.Sink.seen c.args.sink.now))
    c.in-Ok.session (g.I.Source.seen c.join.new.source).given (g.O.Sink.seen c.join.new.sink).taken given_before given_now over (terms_of c.publish_all.new.session) published
    (exchanged (g.I.Source.seen c.leave-in-BadLine.new.source) (g.O.Sink.seen c.leave-in-BadLine.new.sink)) (BadLine c.in-BadLine.line) c.in-Ok.ensures.joined c.publish_all.ensures.terms
    (subst (λ (f : Fault). EndsInAll command (terms_of c.in-Ok.session) joined published given_before given_now over f) bad (c.in-Err-publish_all.ensures.ends (ap is_blamed bad)))
    (standing_of c.leave-in-BadLine.new.session (g.I.Source.seen c.leave-in-BadLine.new.source) (g.O.Sink.seen c.leave-in-BadLine.new.sink), c.in-Ok-leave.ensures.left, refl))

pub returns-in-BadLine-clause-ends : goal.returns-in-BadLine-clause-ends
returns-in-BadLine-clause-ends g c =
    let command = c.args.command.now in
    let given_before = (g.J.Source.seen c.args.input.now).given in
    let given_now = (g.J.Source.seen c.publish_all.new.input).given in
    let over = (g.J.Source.seen c.publish_all.new.input).is_ended in
    let joined = standing_of c.in-Ok.session (g.I.Source.seen c.join.new.source) (g.O.Sink.seen c.join.new.sink) in
    let published = standing_of c.publish_all.new.session (g.I.Source.seen c.publish_all.new.source) (g.O.Sink.seen c.publish_all.new.sink) in
    let bad : c.in-Err-publish_all.fault ≡ BadLine c.in-BadLine.line = c.in-BadLine.is in
    λ is. inr (ends-leaving command (exchanged (g.I.Source.seen c.args.source.now) (g.O.Sink.seen c.args.sink.now))
    c.in-Ok.session (g.I.Source.seen c.join.new.source).given (g.O.Sink.seen c.join.new.sink).taken given_before given_now over (terms_of c.publish_all.new.session) published
    (exchanged (g.I.Source.seen c.leave-in-BadLine.new.source) (g.O.Sink.seen c.leave-in-BadLine.new.sink)) c.in-Err-leave.other c.in-Ok.ensures.joined c.publish_all.ensures.terms
    (inr (c.in-BadLine.line, subst (λ (f : Fault). EndsInAll command (terms_of c.in-Ok.session) joined published given_before given_now over f) bad (c.in-Err-publish_all.ensures.ends (ap is_blamed bad))))
    c.in-Err-leave.ensures.fails)

pub returns-in-Closed-clause-ends : goal.returns-in-Closed-clause-ends
returns-in-Closed-clause-ends g c =
    let published = standing_of c.publish_all.new.session (g.I.Source.seen c.publish_all.new.source) (g.O.Sink.seen c.publish_all.new.sink) in
    let closed = c.in-Closed.is in
    λ is. inr (ends-closing c.args.command.now (exchanged (g.I.Source.seen c.args.source.now) (g.O.Sink.seen c.args.sink.now))
    c.in-Ok.session (g.I.Source.seen c.join.new.source).given (g.O.Sink.seen c.join.new.sink).taken (g.J.Source.seen c.args.input.now).given (g.J.Source.seen c.publish_all.new.input).given (g.J.Source.seen c.publish_all.new.input).is_ended
    (terms_of c.publish_all.new.session) published (exchanged (g.I.Source.seen c.publish_all.new.source) (g.O.Sink.seen c.answer_goodbye.new.sink)) _ c.in-Err-publish_all.fault c.answer_goodbye.result
    closed c.in-Ok.ensures.joined c.publish_all.ensures.terms (c.in-Err-publish_all.ensures.ends (ap is_blamed closed)) (c.answer_goodbye.ensures.answered (g.I.Source.seen c.publish_all.new.source).given))

pub returns-clause-ends : goal.returns-clause-ends
returns-clause-ends g c =
    let published = standing_of c.publish_all.new.session (g.I.Source.seen c.publish_all.new.source) (g.O.Sink.seen c.publish_all.new.sink) in
    λ is. inr (ends-at-once c.args.command.now (exchanged (g.I.Source.seen c.args.source.now) (g.O.Sink.seen c.args.sink.now))
    c.in-Ok.session (g.I.Source.seen c.join.new.source).given (g.O.Sink.seen c.join.new.sink).taken (g.J.Source.seen c.args.input.now).given (g.J.Source.seen c.publish_all.new.input).given (g.J.Source.seen c.publish_all.new.input).is_ended
    (terms_of c.publish_all.new.session) published c.in-Err-publish_all.fault (λ number is. c.in_default.not-BadLine number is) (λ reason is. c.in_default.not-Closed reason is) c.in-Ok.ensures.joined c.publish_all.ensures.terms (c.in-Err-publish_all.ensures.ends is))
