use Rattle.std.proofs.Common.{◌≡◌, length, Ok}
use Rattle.connection.specs.Reader.{CountsSince, PostsFront}
use Rattle.connection.proofs.frames.post_whole.Given as goal

abbrev pub invariant-frames : goal.invariant-frames
invariant-frames g l = record {
  posts : PostsFront l.deframer.most l.serializer l.fn.octets l.rest (g.P.Posting.posted l.fn.poster) (g.P.Posting.posted l.poster) (Ok tt);
  counts : CountsSince l.serializer (g.P.Posting.posted l.fn.poster) (g.P.Posting.posted l.poster) (g.P.Posting.weights l.fn.poster) (g.P.Posting.weights l.poster);
  returned : g.P.Posting.returned l.poster ≡ g.P.Posting.returned l.fn.poster;
}

abbrev pub decreases-frames : goal.decreases-frames
decreases-frames g l = length l.rest
