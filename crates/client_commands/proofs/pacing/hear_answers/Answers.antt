use Rattle.std.proofs.Common.{◌≡◌, ◌<◌, ◌+◌, ◌∙◌, true, arith, refl, rules, subst}
use Rattle.std.proofs.lemmas.Bool.Decides.{nat_tests}
use Rattle.client_session.specs.Hearing.{Terms}
use Rattle.client_commands.specs.Acts.{standing_of, terms_of}
use Rattle.client_commands.specs.Ends.{GetsNoAnswer}
use Rattle.client_commands.specs.Pacing.{IsAcknowledged}
use Rattle.client_commands.proofs.PacingLemmas.{paced-answer}
use Rattle.client_commands.proofs.pacing.hear_answers.Goals as goal

pub answers-init : goal.answers-init
answers-init g c = record {
  published = λ before lines counted p. p;
  rest = refl;
  count = refl;
  terms = refl;
  reads = refl;
  writes = refl;
}

pub answers-preserved : goal.answers-preserved
answers-preserved g c =
    let command = c.args.command.now in
    let t = terms_of c.args.session.now in
    let mid = standing_of c.answers.session (g.I.Source.seen c.answers.source) (g.O.Sink.seen c.answers.sink) in
    let now = standing_of c.hear_answer.new.session (g.I.Source.seen c.hear_answer.new.source) (g.O.Sink.seen c.hear_answer.new.sink) in
    let answered = c.answers.progress.answered in
    let asked : command.wishes.acknowledge ≡ true = search rules in
    let small : answered < c.answers.progress.count = grind (arith, nat_tests) in
    record {
      published = λ before lines counted p.
          paced-answer command t before mid now lines answered (answered + 1)
          (record { asked = asked; due = omega (arith, small, counted, c.answers.invariant.count) })
          (subst (λ (u : Terms). IsAcknowledged u (answered + 1) mid now) c.answers.invariant.terms c.in_default.ensures.published)
          refl (c.answers.invariant.published before lines counted p);
      rest = c.answers.invariant.rest;
      count = c.answers.invariant.count;
      terms = c.hear_answer.ensures.terms ∙ c.answers.invariant.terms;
      reads = omega (arith, c.in_default.ensures.reads, c.answers.invariant.reads);
      writes = omega (arith, c.in_default.ensures.writes, c.answers.invariant.writes);
    }

pub returns-in-Err-clause-ends : goal.returns-in-Err-clause-ends
returns-in-Err-clause-ends g c =
    let command = c.args.command.now in
    let mid = standing_of c.answers.session (g.I.Source.seen c.answers.source) (g.O.Sink.seen c.answers.sink) in
    let now = standing_of c.hear_answer.new.session (g.I.Source.seen c.hear_answer.new.source) (g.O.Sink.seen c.hear_answer.new.sink) in
    let answered = c.answers.progress.answered in
    let asked : command.wishes.acknowledge ≡ true = search rules in
    let small : answered < c.answers.progress.count = grind (arith, nat_tests) in
    λ is before lines counted p. record {
      answered = answered;
      last = mid;
      publishes = c.answers.invariant.published before lines counted p;
      due = record { asked = asked; due = omega (arith, small, counted, c.answers.invariant.count) };
      another = subst (λ (u : Terms). GetsNoAnswer u (answered + 1) mid now c.in-Err.fault) c.answers.invariant.terms (c.in-Err.ensures.another is);
    }
