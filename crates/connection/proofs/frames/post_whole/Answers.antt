use Rattle.std.proofs.Common.{Ok, Err, refl, arith}
use Rattle.rawsocket.specs.Frames.{Content}
use Rattle.connection.proofs.PiecePosted.{front_next, front_start}
use Rattle.connection.proofs.WeightsCounted.{counts_none, counts_then}
use Rattle.connection.proofs.frames.post_whole.Goals as goal

pub frames-init : goal.frames-init
frames-init g c = record {
  posts = front_start c.args.deframer.now.most c.args.serializer c.args.octets.now (g.P.Posting.posted c.args.poster.now);
  counts = counts_none c.args.serializer (g.P.Posting.posted c.args.poster.now) (g.P.Posting.posted c.args.poster.now) (g.P.Posting.weights c.args.poster.now) (g.P.Posting.weights c.args.poster.now) refl refl;
  returned = refl;
}

pub frames-preserved : goal.frames-preserved
frames-preserved g c =
    let frame : Content = record { kind = c.in-Some.kind; payload = c.in-Some.payload.now } in
    record {
      posts = front_next c.args.deframer.now.most c.args.serializer (Ok tt) frame c.args.octets.now c.frames.rest.now c.in-Some.after.now (g.P.Posting.posted c.args.poster.now) (g.P.Posting.posted c.frames.poster) (g.P.Posting.posted c.post_lying.new.poster)
          c.in-Some.ensures.len c.in-Some.ensures.found c.frames.invariant.posts c.in_default-post_lying.ensures.posted;
      counts = counts_then c.args.serializer (g.P.Posting.posted c.args.poster.now) (g.P.Posting.posted c.frames.poster) (g.P.Posting.posted c.post_lying.new.poster) (g.P.Posting.weights c.args.poster.now) (g.P.Posting.weights c.frames.poster) (g.P.Posting.weights c.post_lying.new.poster) c.frames.invariant.counts c.in_default-post_lying.ensures.counts;
      returned = omega (arith, c.in_default-post_lying.ensures.returned, c.frames.invariant.returned);
    }

pub returns-in-Err-clause-ended : goal.returns-in-Err-clause-ended
returns-in-Err-clause-ended g c =
    let frame : Content = record { kind = c.in-Some.kind; payload = c.in-Some.payload.now } in (
      c.in-Some.after.now,
      front_next c.args.deframer.now.most c.args.serializer (Err c.in-Err.end) frame c.args.octets.now c.frames.rest.now c.in-Some.after.now (g.P.Posting.posted c.args.poster.now) (g.P.Posting.posted c.frames.poster)
          (g.P.Posting.posted c.post_lying.new.poster) c.in-Some.ensures.len c.in-Some.ensures.found c.frames.invariant.posts c.in-Err.ensures.posted,
    )

pub returns-in-Err-clause-counts : goal.returns-in-Err-clause-counts
returns-in-Err-clause-counts g c = counts_then c.args.serializer (g.P.Posting.posted c.args.poster.now) (g.P.Posting.posted c.frames.poster) (g.P.Posting.posted c.post_lying.new.poster) (g.P.Posting.weights c.args.poster.now) (g.P.Posting.weights c.frames.poster) (g.P.Posting.weights c.post_lying.new.poster) c.frames.invariant.counts c.in-Err.ensures.counts
