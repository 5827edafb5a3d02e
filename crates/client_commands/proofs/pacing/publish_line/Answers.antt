use Rattle.std.proofs.Common.{◌+◌, ◌++◌, ◌∙◌, ap, arith, inl, inr, refl, subst, sym}
use Rattle.session.specs.Opened.{exchange}
use Rattle.client_session.specs.Hearing.{Terms, ear}
use Rattle.client_session.specs.Saying.{saying}
use Rattle.client_commands.specs.Acts.{standing_of, terms_of}
use Rattle.client_commands.specs.Ends.{IsBadLine}
use Rattle.client_commands.specs.Pacing.{IsOfLine}
use Rattle.client_commands.specs.declared.fault.Fault.TheVariants.{BadLine}
use Rattle.client_commands.proofs.PacingLemmas.{paced-line}
use Rattle.client_commands.proofs.StopLemmas.{said-as}
use Rattle.client_commands.proofs.pacing.publish_line.Goals as goal

pub returns-in-Err-clause-ends : goal.returns-in-Err-clause-ends
returns-in-Err-clause-ends g c =
    let kwargs = c.args.command.now.kwargs in
    let line = c.args.progress.now.rest.items in
    let progress = c.hear_answers.new.progress in
    λ is before lines counted p.
    let bad = c.in-Err.ensures.bad is in
    inl (inl (record {
      number = bad.0 ∙ ap (λ n. BadLine (n + 1)) (sym counted);
      bad = subst (λ n. IsBadLine kwargs (n + 1) line) (sym counted) (subst (λ xs. IsBadLine kwargs (c.args.progress.now.count + 1) xs) c.deref.ensures.value bad.1);
      answered = progress.answered;
      publishes = c.in_default.ensures.published before lines counted p;
      all = λ asked. omega (arith, c.in_default.ensures.few asked, progress.due, c.hear_answers.ensures.count, counted);
    }))

pub returns-in-Err-hear_answers-clause-ends : goal.returns-in-Err-hear_answers-clause-ends
returns-in-Err-hear_answers-clause-ends g c = λ is before lines counted p. inr (c.in-Err-hear_answers.ensures.ends is before lines counted p)

pub returns-in-Err-hear_answers-2-clause-ends : goal.returns-in-Err-hear_answers-2-clause-ends
returns-in-Err-hear_answers-2-clause-ends g c = λ is before lines counted p. inr (c.in-Err-hear_answers-2.ensures.ends is before lines counted p)

pub returns-in-Err-say-clause-ends : goal.returns-in-Err-say-clause-ends
returns-in-Err-say-clause-ends g c =
    let line = c.args.progress.now.rest.items in
    let count = c.args.progress.now.count in
    let said = c.in-Ok.said in
    let session = c.hear_answers-2.new.session in
    let given = (g.I.Source.seen c.hear_answers-2.new.source).given in
    λ is before lines counted p. inl (inr (record {
      answered = c.hear_answers-2.new.progress.answered;
      last = standing_of session (g.I.Source.seen c.hear_answers-2.new.source) (g.O.Sink.seen c.hear_answers-2.new.sink);
      publishes = c.in_default-hear_answers.ensures.published before lines counted p;
      message = said;
      of_line = subst (λ n. IsOfLine c.args.command.now (n + 1) line said) (sym counted) (subst (λ xs. IsOfLine c.args.command.now (count + 1) xs said) c.deref.ensures.value c.in-Ok.ensures.said);
      unsaid =
          said-as (terms_of c.args.session.now) (terms_of session) c.link.result.now session.line said (exchange given (g.O.Sink.seen c.hear_answers-2.new.sink).taken) (exchange given (g.O.Sink.seen c.say.new.sink).taken)
          c.in-Err-say.fault c.hear_answers-2.ensures.terms refl c.link.ensures (c.in-Err-say.ensures.unsaid given);
    }))

pub returns-clause-published : goal.returns-clause-published
returns-clause-published g c =
    let command = c.args.command.now in
    let line = c.args.progress.now.rest.items in
    let count = c.args.progress.now.count in
    let said = c.in-Ok.said in
    let session = c.hear_answers-2.new.session in
    let given = (g.I.Source.seen c.hear_answers-2.new.source).given in
    let taken = (g.O.Sink.seen c.hear_answers-2.new.sink).taken in
    let mid = standing_of session (g.I.Source.seen c.hear_answers-2.new.source) (g.O.Sink.seen c.hear_answers-2.new.sink) in
    let now = standing_of session (g.I.Source.seen c.hear_answers-2.new.source) (g.O.Sink.seen c.say.new.sink) in
    λ before lines counted p.
    paced-line command (terms_of c.args.session.now) before mid now lines line c.hear_answers-2.new.progress.answered
    (λ asked. omega (arith, c.in_default-hear_answers.ensures.few asked, c.hear_answers-2.ensures.count, counted))
    (record {
      message = said;
      of_line = subst (λ n. IsOfLine command (n + 1) line said) (sym counted) (subst (λ xs. IsOfLine command (count + 1) xs said) c.deref.ensures.value c.in-Ok.ensures.said);
      is_said = ap (λ xs. ear session.line.waiting session.line.held given xs)
          (c.in_default-say.ensures.said ∙ ap (λ l. taken ++ saying l.serializer said) c.link.ensures ∙ ap (λ (t : Terms). taken ++ saying t.serializer said) c.hear_answers-2.ensures.terms);
    })
    (c.in_default-hear_answers.ensures.published before lines counted p)
