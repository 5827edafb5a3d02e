use Rattle.std.proofs.Common.{[], ◌∷◌, ◌++◌, ◌∙◌, ap, append-nil, arith, inr, refl, rules, subst, sym}
use Rattle.rawsocket.proofs.Lemmas.{all_turns, then_steps}
use Rattle.session.specs.Opened.{exchanged}
use Rattle.client_commands.specs.Acts.{IsCountedOff, events, granted_with, is_subscribed, line_for, noted, standing_of, terms_of}
use Rattle.client_commands.specs.Notes.{IsNoted, Noting, noting}
use Rattle.client_commands.proofs.FaultLemmas.{runs-out, runs-out-here}
use Rattle.client_commands.proofs.ListeningLemmas.{counted-more, counted-none, listens-more, printed-more, printed-partly}
use Rattle.client_commands.proofs.NotingLemmas.{noted-more, none-noted}
use Rattle.client_commands.proofs.StopLemmas.{stops-at, tells-out, tells-until, tells-until-taken}
use Rattle.client_commands.proofs.subscribing.follow.Goals as goal

pub messages-init : goal.messages-init
messages-init g c = record {
  heards = [];
  harmless = tt;
  listens = refl;
  lines = sym (append-nil (g.P.Sink.seen c.args.output.now).taken);
  notes_are = none-noted (noting (g.N.Sink.seen c.args.notes.now)) (noting (g.N.Sink.seen c.args.notes.now)) refl;
  granted_are = search rules;
  counted = counted-none c.args.listener.now.left;
  terms = refl;
  reads = refl;
  writes = refl;
  steps = all_turns c.new-turns.ensures;
}

pub messages-preserved : goal.messages-preserved
messages-preserved g c = record {
  heards = c.in-Ok.heard ∷ c.messages.invariant.heards;
  harmless = (c.in-Ok-take.ensures.harmless, c.messages.invariant.harmless);
  listens =
      listens-more (terms_of c.args.session.now) (terms_of c.messages.session)
      (standing_of c.args.session.now (g.I.Source.seen c.args.source.now) (g.O.Sink.seen c.args.sink.now))
      (standing_of c.messages.session (g.I.Source.seen c.messages.source) (g.O.Sink.seen c.messages.sink))
      (standing_of c.hear.new.session (g.I.Source.seen c.hear.new.source) (g.O.Sink.seen c.hear.new.sink))
      c.messages.invariant.heards c.in-Ok.heard c.messages.invariant.terms c.messages.invariant.listens c.in-Ok.ensures.next;
  lines =
      printed-more c.args.command.now.form c.args.command.now.topics.items c.messages.invariant.heards c.in-Ok.heard (g.P.Sink.seen c.args.output.now).taken (g.P.Sink.seen c.messages.output).taken (g.P.Sink.seen c.take.new.output).taken
      c.messages.invariant.lines (c.in-Ok-take.ensures.printed ∙ ap (λ granted. (g.P.Sink.seen c.messages.output).taken ++ line_for c.args.command.now.form c.args.command.now.topics.items granted c.in-Ok.heard) c.messages.invariant.granted_are);
  notes_are =
      noted-more c.args.command.now.topics.items c.messages.invariant.heards c.in-Ok.heard (noting (g.N.Sink.seen c.args.notes.now)) (noting (g.N.Sink.seen c.messages.notes))
      (noting (g.N.Sink.seen c.take.new.notes)) c.messages.invariant.notes_are c.in-Ok-take.ensures.told;
  granted_are = c.in-Ok-take.ensures.noted ∙ ap (λ granted. granted_with granted c.in-Ok.heard) c.messages.invariant.granted_are;
  counted =
      counted-more c.messages.invariant.heards c.in-Ok.heard c.in-Ok-take.event c.args.listener.now.left c.settle.new.self.left c.count_off.new.self.left c.in-Ok-take.ensures.event
      (subst (λ x. IsCountedOff c.args.listener.now.left x (events c.messages.invariant.heards)) (sym c.settle.ensures.left) c.messages.invariant.counted) c.count_off.ensures.counted;
  terms = c.hear.ensures.terms ∙ c.messages.invariant.terms;
  reads = omega (arith, c.in-Ok.ensures.reads.steps.failures, c.messages.invariant.reads);
  writes = omega (arith, c.in-Ok.ensures.writes.steps.failures, c.messages.invariant.writes);
  steps = then_steps c.messages.invariant.steps c.in-Ok-take.ensures.writes;
}

pub returns-in-Err-take-clause-prints : goal.returns-in-Err-take-clause-prints
returns-in-Err-take-clause-prints g c = record {
  heards = c.messages.invariant.heards;
  now = standing_of c.messages.session (g.I.Source.seen c.messages.source) (g.O.Sink.seen c.messages.sink);
  listens = c.messages.invariant.listens;
  since = c.hear.ensures.goes_on;
  lines_are =
      inr (printed-partly c.args.command.now.form c.args.command.now.topics.items (terms_of c.args.session.now) (terms_of c.messages.session) c.messages.invariant.heards c.in-Ok.heard
      (standing_of c.messages.session (g.I.Source.seen c.messages.source) (g.O.Sink.seen c.messages.sink))
      (standing_of c.hear.new.session (g.I.Source.seen c.hear.new.source) (g.O.Sink.seen c.hear.new.sink))
      c.messages.granted.items (g.P.Sink.seen c.args.output.now).taken (g.P.Sink.seen c.messages.output).taken (g.P.Sink.seen c.take.new.output).taken
      c.messages.invariant.terms c.in-Ok.ensures.next c.messages.invariant.lines c.messages.invariant.granted_are c.in-Err-take.ensures.begun);
  noted_are =
      subst (λ (n : Noting). IsNoted (noted c.args.command.now.topics.items c.messages.invariant.heards) (noting (g.N.Sink.seen c.args.notes.now)) n)
      (sym c.in-Err-take.ensures.silent) c.messages.invariant.notes_are;
  so_far = record {
    counted = subst (λ x. IsCountedOff c.args.listener.now.left x (events c.messages.invariant.heards)) (sym c.settle.ensures.left) c.messages.invariant.counted;
    subscribed = c.settle.ensures.noted ∙ ap (λ granted. is_subscribed c.args.command.now.topics.items granted) c.messages.invariant.granted_are;
  };
}

pub returns-in-Err-clause-stops : goal.returns-in-Err-clause-stops
returns-in-Err-clause-stops g c =
    let command = c.args.command.now in
    let t = terms_of c.args.session.now in
    let mid = standing_of c.messages.session (g.I.Source.seen c.messages.source) (g.O.Sink.seen c.messages.sink) in
    let after = standing_of c.hear.new.session (g.I.Source.seen c.hear.new.source) (g.O.Sink.seen c.hear.new.sink) in
    tells-until command.form command.topics.items t (standing_of c.args.session.now (g.I.Source.seen c.args.source.now) (g.O.Sink.seen c.args.sink.now))
    (g.P.Sink.seen c.args.output.now).taken (g.P.Sink.seen c.messages.output).taken (noting (g.N.Sink.seen c.args.notes.now)) (noting (g.N.Sink.seen c.messages.notes))
    c.args.listener.now.left c.settle.new.self.left mid (exchanged (g.I.Source.seen c.hear.new.source) (g.O.Sink.seen c.hear.new.sink)) c.messages.invariant.heards c.in-Err.fault
    c.messages.invariant.harmless c.messages.invariant.listens c.messages.invariant.lines c.messages.invariant.notes_are
    (subst (λ x. IsCountedOff c.args.listener.now.left x (events c.messages.invariant.heards)) (sym c.settle.ensures.left) c.messages.invariant.counted) c.in-Err.ensures.aside.output
    (stops-at t (terms_of c.messages.session) mid after c.in-Err.fault c.messages.invariant.terms c.in-Err.ensures.stops)

pub returns-in-Err-clause-turns : goal.returns-in-Err-clause-turns
returns-in-Err-clause-turns g c =
    runs-out (g.I.Source.seen c.messages.source) (g.I.Source.seen c.hear.new.source) (g.O.Sink.seen c.messages.sink) (g.O.Sink.seen c.hear.new.sink) c.in-Err.fault c.in-Err.ensures.reads c.in-Err.ensures.writes

pub returns-in-Err-take-clause-stops : goal.returns-in-Err-take-clause-stops
returns-in-Err-take-clause-stops g c =
    let command = c.args.command.now in
    let t = terms_of c.args.session.now in
    let mid = standing_of c.messages.session (g.I.Source.seen c.messages.source) (g.O.Sink.seen c.messages.sink) in
    let after = standing_of c.hear.new.session (g.I.Source.seen c.hear.new.source) (g.O.Sink.seen c.hear.new.sink) in
    tells-until-taken command.form command.topics.items t (standing_of c.args.session.now (g.I.Source.seen c.args.source.now) (g.O.Sink.seen c.args.sink.now))
    (g.P.Sink.seen c.args.output.now).taken (g.P.Sink.seen c.take.new.output).taken (noting (g.N.Sink.seen c.args.notes.now)) (noting (g.N.Sink.seen c.take.new.notes))
    c.args.listener.now.left c.settle.new.self.left (terms_of c.messages.session) mid after c.messages.invariant.heards c.in-Ok.heard c.messages.granted.items (g.P.Sink.seen c.messages.output).taken c.in-Err-take.fault
    c.messages.invariant.terms c.in-Ok.ensures.next c.messages.invariant.harmless c.messages.invariant.listens c.messages.invariant.lines
    (subst (λ (n : Noting). IsNoted (noted command.topics.items c.messages.invariant.heards) (noting (g.N.Sink.seen c.args.notes.now)) n) (sym c.in-Err-take.ensures.silent) c.messages.invariant.notes_are)
    (subst (λ x. IsCountedOff c.args.listener.now.left x (events c.messages.invariant.heards)) (sym c.settle.ensures.left) c.messages.invariant.counted)
    c.messages.invariant.granted_are c.in-Err-take.ensures.begun c.in-Err-take.ensures.untold.other c.in-Err-take.ensures.unprinted c.in-Err-take.ensures.blamed

pub returns-in-Err-take-clause-turns : goal.returns-in-Err-take-clause-turns
returns-in-Err-take-clause-turns g c = runs-out-here (g.I.Source.seen c.hear.new.source) (g.O.Sink.seen c.hear.new.sink) c.in-Err-take.fault c.in-Err-take.ensures.untold.other

pub returns-clause-stops : goal.returns-clause-stops
returns-clause-stops g c =
    let command = c.args.command.now in
    tells-out command.form command.topics.items (terms_of c.args.session.now) (standing_of c.args.session.now (g.I.Source.seen c.args.source.now) (g.O.Sink.seen c.args.sink.now))
    (g.P.Sink.seen c.args.output.now).taken (g.P.Sink.seen c.messages.output).taken (noting (g.N.Sink.seen c.args.notes.now)) (noting (g.N.Sink.seen c.messages.notes))
    c.args.listener.now.left _ (standing_of c.messages.session (g.I.Source.seen c.messages.source) (g.O.Sink.seen c.messages.sink)) (exchanged (g.I.Source.seen c.messages.source) (g.O.Sink.seen c.messages.sink))
    c.messages.invariant.heards c.messages.invariant.harmless c.messages.invariant.listens c.messages.invariant.notes_are
    (subst (λ x. IsCountedOff c.args.listener.now.left x (events c.messages.invariant.heards)) (sym c.settle-2.ensures.left) c.messages.invariant.counted)
