use Rattle.std.proofs.Common.{◌≡◌, [], ◌∷◌, ◌++◌, ◌∙◌, ap, arith, refl, subst, sym}
use Rattle.client_messages.specs.declared.client_message.ClientMessage.TheVariants.{Goodbye}
use Rattle.rawsocket.specs.Steps.{Told}
use Rattle.session.specs.Opened.{exchanged}
use Rattle.client_session.specs.Saying.{saying}
use Rattle.client_commands.specs.Acts.{standing_of, terms_of, writing}
use Rattle.client_commands.specs.Faults.{ReadFailuresTold, WriteFailuresTold}
use Rattle.client_commands.proofs.ContinuingLemmas.{continues-begun, continues-said, continues-then}
use Rattle.client_commands.proofs.FaultLemmas.{no-end, runs-out, runs-out-here, runs-out-writing}
use Rattle.client_commands.proofs.ListeningLemmas.{listens-more, listens-none}
use Rattle.client_commands.proofs.StopLemmas.{goodbye-unheard, goodbye-unsaid, no-goodbye, not-closed, said-on, stops-at, stops-by-message}
use Rattle.client_commands.proofs.leaving.leave.Goals as goal

pub returns-in-Err-clause-goes_on : goal.returns-in-Err-clause-goes_on
returns-in-Err-clause-goes_on g c =
    continues-begun (g.I.Source.seen c.args.source.now).given (g.O.Sink.seen c.args.sink.now).taken (saying c.link.result.now.serializer Goodbye) (g.O.Sink.seen c.say.new.sink).taken
    c.in-Err.ensures.begun

pub returns-in-Err-clause-fails : goal.returns-in-Err-clause-fails
returns-in-Err-clause-fails g c =
    let given = (g.I.Source.seen c.args.source.now).given in
    goodbye-unsaid (terms_of c.args.session.now) (standing_of c.args.session.now (g.I.Source.seen c.args.source.now) (g.O.Sink.seen c.args.sink.now))
    (exchanged (g.I.Source.seen c.args.source.now) (g.O.Sink.seen c.say.new.sink)) c.in-Err.fault
    (said-on c.link.result.now c.args.session.now.line Goodbye (exchanged (g.I.Source.seen c.args.source.now) (g.O.Sink.seen c.args.sink.now))
    (exchanged (g.I.Source.seen c.args.source.now) (g.O.Sink.seen c.say.new.sink)) c.in-Err.fault c.link.ensures (c.in-Err.ensures.unsaid given))

pub returns-in-Err-clause-turns : goal.returns-in-Err-clause-turns
returns-in-Err-clause-turns g c =
    runs-out-writing (g.I.Source.seen c.args.source.now) (g.O.Sink.seen c.args.sink.now) (g.O.Sink.seen c.say.new.sink) c.in-Err.fault c.in-Err.ensures.unread c.in-Err.ensures.writes

pub messages-init : goal.messages-init
messages-init g c = record {
  passed = [];
  harmless = tt;
  listens =
      listens-none (terms_of c.args.session.now) c.args.session.now (g.I.Source.seen c.args.source.now).given (g.O.Sink.seen c.args.sink.now).taken (saying c.args.session.now.line.serializer Goodbye) (g.O.Sink.seen c.say.new.sink).taken
      (c.in_default.ensures.said ∙ ap (λ l. (g.O.Sink.seen c.args.sink.now).taken ++ saying l.serializer Goodbye) c.link.ensures);
  goes_on =
      continues-said (g.I.Source.seen c.args.source.now).given (g.O.Sink.seen c.args.sink.now).taken (saying c.link.result.now.serializer Goodbye) (g.O.Sink.seen c.say.new.sink).taken
      c.in_default.ensures.said;
  terms = refl;
  reads = refl;
  writes = omega (arith, c.in_default.ensures.writes.steps.failures);
}

pub messages-preserved : goal.messages-preserved
messages-preserved g c = record {
  passed = c.in-Ok.heard ∷ c.messages.invariant.passed;
  harmless = (cc, c.messages.invariant.harmless);
  listens =
      listens-more (terms_of c.args.session.now) (terms_of c.messages.session)
      (writing (standing_of c.args.session.now (g.I.Source.seen c.args.source.now) (g.O.Sink.seen c.args.sink.now)) (saying c.args.session.now.line.serializer Goodbye))
      (standing_of c.messages.session (g.I.Source.seen c.messages.source) (g.O.Sink.seen c.messages.sink))
      (standing_of c.hear.new.session (g.I.Source.seen c.hear.new.source) (g.O.Sink.seen c.hear.new.sink))
      c.messages.invariant.passed c.in-Ok.heard c.messages.invariant.terms c.messages.invariant.listens c.in-Ok.ensures.next;
  goes_on = continues-then c.messages.invariant.goes_on c.hear.ensures.goes_on;
  terms = c.hear.ensures.terms ∙ c.messages.invariant.terms;
  reads = omega (arith, c.in-Ok.ensures.reads.steps.failures, c.messages.invariant.reads);
  writes = omega (arith, c.in-Ok.ensures.writes.steps.failures, c.messages.invariant.writes);
}

pub returns-in-Err-hear-clause-fails : goal.returns-in-Err-hear-clause-fails
returns-in-Err-hear-clause-fails g c =
    let mid = standing_of c.messages.session (g.I.Source.seen c.messages.source) (g.O.Sink.seen c.messages.sink) in
    let after = standing_of c.hear.new.session (g.I.Source.seen c.hear.new.source) (g.O.Sink.seen c.hear.new.sink) in
    goodbye-unheard (terms_of c.args.session.now) (standing_of c.args.session.now (g.I.Source.seen c.args.source.now) (g.O.Sink.seen c.args.sink.now)) mid
    (exchanged (g.I.Source.seen c.hear.new.source) (g.O.Sink.seen c.hear.new.sink)) c.messages.invariant.passed c.in-Err-hear.fault (not-closed c.in-Err-hear.fault c.in-Err-hear.ensures.unblamed)
    c.messages.invariant.harmless c.messages.invariant.listens
    (stops-at (terms_of c.args.session.now) (terms_of c.messages.session) mid after c.in-Err-hear.fault c.messages.invariant.terms c.in-Err-hear.ensures.stops)

pub returns-in-Err-hear-clause-turns : goal.returns-in-Err-hear-clause-turns
returns-in-Err-hear-clause-turns g c =
    runs-out (g.I.Source.seen c.messages.source) (g.I.Source.seen c.hear.new.source) (g.O.Sink.seen c.messages.sink) (g.O.Sink.seen c.hear.new.sink) c.in-Err-hear.fault c.in-Err-hear.ensures.reads c.in-Err-hear.ensures.writes

pub returns-then-not-may_come : goal.returns-then-not-may_come
returns-then-not-may_come g c =
    let mid = standing_of c.messages.session (g.I.Source.seen c.messages.source) (g.O.Sink.seen c.messages.sink) in
    let after = standing_of c.hear.new.session (g.I.Source.seen c.hear.new.source) (g.O.Sink.seen c.hear.new.sink) in
    record {
      left = tt;
      goes_on = continues-then c.messages.invariant.goes_on c.hear.ensures.goes_on;
      fails =
          goodbye-unheard (terms_of c.args.session.now) (standing_of c.args.session.now (g.I.Source.seen c.args.source.now) (g.O.Sink.seen c.args.sink.now)) mid
          (exchanged (g.I.Source.seen c.hear.new.source) (g.O.Sink.seen c.hear.new.sink)) c.messages.invariant.passed c.fault_of.result
          (no-goodbye c.in-Ok.heard c.fault_of.result c.fault_of.ensures.why (λ reason is. c.in_default-heard.not-Goodbye reason is))
          c.messages.invariant.harmless c.messages.invariant.listens
          (stops-at (terms_of c.args.session.now) (terms_of c.messages.session) mid after c.fault_of.result c.messages.invariant.terms
          (stops-by-message (terms_of c.messages.session) mid after c.in-Ok.heard c.fault_of.result c.in-Ok.ensures.next c.fault_of.ensures.why));
      gone = no-end c.fault_of.result (g.I.Source.seen c.hear.new.source).is_ended c.fault_of.ensures.of_here.end;
      turns = runs-out-here (g.I.Source.seen c.hear.new.source) (g.O.Sink.seen c.hear.new.sink) c.fault_of.result c.fault_of.ensures.of_here.other;
      aside = c.fault_of.ensures.of_broker;
      reads =
          subst (λ (t : Told). ReadFailuresTold (g.I.Source.seen c.args.source.now) (g.I.Source.seen c.hear.new.source) t) (sym c.fault_of.ensures.of_here.source)
          (omega (arith, c.in-Ok.ensures.reads.steps.failures, c.messages.invariant.reads));
      writes =
          subst (λ (t : Told). WriteFailuresTold (g.O.Sink.seen c.args.sink.now) (g.O.Sink.seen c.hear.new.sink) t) (sym c.fault_of.ensures.of_here.sink)
          (omega (arith, c.in-Ok.ensures.writes.steps.failures, c.messages.invariant.writes));
    }
