use Rattle.std.proofs.Common.{[]}
use Rattle.rawsocket.specs.Frames.{contents}
use Rattle.connection.proofs.PiecePosted.{early_then, stops_early}
use Rattle.connection.proofs.WeightsCounted.{counts_then}
use Rattle.connection.proofs.reader.begin.Goals as goal

pub returns-in-Err-clause-advances : goal.returns-in-Err-clause-advances
returns-in-Err-clause-advances g c = stops_early c.args.deframer.now.most c.args.serializer c.in-Err.end (contents c.args.early.items) c.args.deframer.now.held [] c.args.deframer.now.held (g.P.Posting.posted c.args.poster.now) (g.P.Posting.posted c.post_frames.new.poster) c.in-Err.ensures.posted

pub returns-clause-advances : goal.returns-clause-advances
returns-clause-advances g c =
    early_then c.args.deframer.now.most c.args.serializer c.advance.result (contents c.args.early.items) c.args.deframer.now.held [] c.advance.new.deframer.held (g.P.Posting.posted c.args.poster.now) (g.P.Posting.posted c.post_frames.new.poster)
    (g.P.Posting.posted c.advance.new.poster) c.in_default.ensures.posted c.advance.ensures.advances

pub returns-clause-counts : goal.returns-clause-counts
returns-clause-counts g c = counts_then c.args.serializer (g.P.Posting.posted c.args.poster.now) (g.P.Posting.posted c.post_frames.new.poster) (g.P.Posting.posted c.advance.new.poster) (g.P.Posting.weights c.args.poster.now) (g.P.Posting.weights c.post_frames.new.poster) (g.P.Posting.weights c.advance.new.poster) c.post_frames.ensures.counts c.advance.ensures.counts
