use Rattle.std.proofs.Common.{◌≡◌, length}
use Rattle.rawsocket.specs.Frames.{contents}
use Rattle.connection.proofs.FramesPosted.{Halfway}
use Rattle.connection.specs.Reader.{CountsSince}
use Rattle.connection.proofs.frames.post_frames.Given as goal

abbrev pub invariant-frames : goal.invariant-frames
invariant-frames g l = record {
  posts : Halfway l.serializer (contents l.fn.frames.items) (contents l.left.items) (g.P.Posting.posted l.fn.poster) (g.P.Posting.posted l.poster);
  counts : CountsSince l.serializer (g.P.Posting.posted l.fn.poster) (g.P.Posting.posted l.poster) (g.P.Posting.weights l.fn.poster) (g.P.Posting.weights l.poster);
  returned : g.P.Posting.returned l.poster ≡ g.P.Posting.returned l.fn.poster;
}

abbrev pub decreases-frames : goal.decreases-frames
decreases-frames g l = length l.left.items
