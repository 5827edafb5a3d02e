use Rattle.std.proofs.Common.{◌≡◌}
use Rattle.client_session.specs.Hearing.{HearsNoneYet}
use Rattle.client_commands.specs.Acts.{standing_of, terms_of}
use Rattle.client_commands.proofs.attending.attend.Given as goal

abbrev pub invariant-arrivals : goal.invariant-arrivals
invariant-arrivals g l = record {
  yet : HearsNoneYet (terms_of l.fn.session) (standing_of l.fn.session (g.I.Source.seen l.fn.source) (g.O.Sink.seen l.fn.sink)) (standing_of l.session (g.I.Source.seen l.source) (g.O.Sink.seen l.sink));
  terms : terms_of l.session ≡ terms_of l.fn.session;
  reads : (g.I.Source.seen l.source).failures ≡ (g.I.Source.seen l.fn.source).failures;
  writes : (g.O.Sink.seen l.sink).failures ≡ (g.O.Sink.seen l.fn.sink).failures;
}
