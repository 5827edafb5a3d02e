use Rattle.std.proofs.Common.{◌≡◌, ◌++◌, List, ℕ}
use Rattle.rawsocket.specs.Steps.{Fine, Steps, read_meter}
use Rattle.client_commands.specs.Acts.{standing_of, terms_of}
use Rattle.client_commands.specs.Pacing.{AllAnswered}
use Rattle.client_commands.specs.Published.{IsPublishedOf}
use Rattle.client_commands.proofs.publishing.publish_pieces.Given as goal

abbrev pub invariant-pieces : goal.invariant-pieces
invariant-pieces g l = record {
  read_so_far : List ℕ;
  read : (g.J.Source.seen l.input).given ≡ (g.J.Source.seen l.fn.input).given ++ read_so_far;
  published : IsPublishedOf l.command (terms_of l.fn.session) (standing_of l.fn.session (g.I.Source.seen l.fn.source) (g.O.Sink.seen l.fn.sink)) (standing_of l.session (g.I.Source.seen l.source) (g.O.Sink.seen l.sink)) read_so_far l.progress.rest.items l.progress.count l.progress.answered;
  all : AllAnswered l.command.wishes.acknowledge l.progress.count l.progress.answered;
  terms : terms_of l.session ≡ terms_of l.fn.session;
  reads : (g.I.Source.seen l.source).failures ≡ (g.I.Source.seen l.fn.source).failures;
  writes : (g.O.Sink.seen l.sink).failures ≡ (g.O.Sink.seen l.fn.sink).failures;
  steps : Steps (read_meter (g.J.Source.seen l.fn.input) 4294967296) (read_meter (g.J.Source.seen l.input) l.turns) Fine;
}

abbrev pub decreases-pieces : goal.decreases-pieces
decreases-pieces g l = l.turns
