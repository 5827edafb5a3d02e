use Rattle.std.proofs.Common.{◌≡◌, ◌++◌, List, ℕ, length}
use Rattle.client_commands.specs.Acts.{standing_of, terms_of}
use Rattle.client_commands.specs.Published.{IsPublishedOf, WherePublished}
use Rattle.client_commands.proofs.publishing.publish_piece.Given as goal

abbrev pub invariant-lines : goal.invariant-lines
invariant-lines g l = record {
  done : List ℕ;
  piece : l.piece ≡ done ++ l.left;
  published :
      WherePublished l.command (terms_of l.fn.session) (standing_of l.fn.session (g.I.Source.seen l.fn.source) (g.O.Sink.seen l.fn.sink)) l.fn.progress
      (λ before input. IsPublishedOf l.command (terms_of l.fn.session) before (standing_of l.session (g.I.Source.seen l.source) (g.O.Sink.seen l.sink)) (input ++ done) l.progress.rest.items l.progress.count l.progress.answered);
  terms : terms_of l.session ≡ terms_of l.fn.session;
  reads : (g.I.Source.seen l.source).failures ≡ (g.I.Source.seen l.fn.source).failures;
  writes : (g.O.Sink.seen l.sink).failures ≡ (g.O.Sink.seen l.fn.sink).failures;
}

abbrev pub decreases-lines : goal.decreases-lines
decreases-lines g l = length l.left
