use Rattle.std.proofs.Common.{◌≡◌}
use Rattle.rawsocket.specs.Frames.{contents}
use Rattle.rawsocket.specs.Steps.{Fine, Steps, read_meter}
use Rattle.connection.proofs.ReaderProgress.{Onward}
use Rattle.connection.specs.Reader.{CountsSince}
use Rattle.connection.proofs.reader.read_on.Given as goal

abbrev pub invariant-pieces : goal.invariant-pieces
invariant-pieces g l = record {
  onward : Onward l.serializer (contents l.fn.early.items) l.fn.deframer.most l.fn.deframer.held (g.I.Source.seen l.fn.source).given (g.I.Source.seen l.source).given (g.P.Posting.posted l.fn.poster) (g.P.Posting.posted l.poster) l.deframer.held;
  counts : CountsSince l.serializer (g.P.Posting.posted l.fn.poster) (g.P.Posting.posted l.poster) (g.P.Posting.weights l.fn.poster) (g.P.Posting.weights l.poster);
  returned : g.P.Posting.returned l.poster ≡ g.P.Posting.returned l.fn.poster;
  most : l.deframer.most ≡ l.fn.deframer.most;
  steps : Steps (read_meter (g.I.Source.seen l.fn.source) 4294967296) (read_meter (g.I.Source.seen l.source) l.turns) Fine;
}

abbrev pub decreases-pieces : goal.decreases-pieces
decreases-pieces g l = l.turns
