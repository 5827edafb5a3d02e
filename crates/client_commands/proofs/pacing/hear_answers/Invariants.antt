use Rattle.std.proofs.Common.{◌≡◌, ◌-◌}
use Rattle.client_commands.specs.Acts.{standing_of, terms_of}
use Rattle.client_commands.specs.Pacing.{IsPaced, WherePaced}
use Rattle.client_commands.proofs.pacing.hear_answers.Given as goal

abbrev pub invariant-answers : goal.invariant-answers
invariant-answers g l = record {
  published :
      WherePaced l.command (terms_of l.fn.session) (standing_of l.fn.session (g.I.Source.seen l.fn.source) (g.O.Sink.seen l.fn.sink)) l.fn.progress
      (λ before lines. IsPaced l.command (terms_of l.fn.session) before (standing_of l.session (g.I.Source.seen l.source) (g.O.Sink.seen l.sink)) lines l.progress.answered);
  rest : l.progress.rest.items ≡ l.fn.progress.rest.items;
  count : l.progress.count ≡ l.fn.progress.count;
  terms : terms_of l.session ≡ terms_of l.fn.session;
  reads : (g.I.Source.seen l.source).failures ≡ (g.I.Source.seen l.fn.source).failures;
  writes : (g.O.Sink.seen l.sink).failures ≡ (g.O.Sink.seen l.fn.sink).failures;
}

abbrev pub decreases-answers : goal.decreases-answers
decreases-answers g l = l.progress.count - l.progress.answered
