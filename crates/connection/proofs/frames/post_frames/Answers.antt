use Rattle.std.proofs.Common.{None, List, [], ◌∷◌, length, refl, sym, ap, subst, ◌≡◌, arith}
use Rattle.rawsocket.specs.Frames.{content, contents}
use Rattle.rawsocket.specs.declared.frame.Frame.{Frame}
use Rattle.connection.proofs.FramesPosted.{Halfway, Halfway-start, Halfway-more, Halfway-ends, Halfway-done}
use Rattle.connection.proofs.WeightsCounted.{counts_none, counts_then}
use Rattle.connection.proofs.frames.post_frames.Goals as goal

none_left : (frames : List Frame) → length frames ≡ 0 → contents frames ≡ []
none_left [] e = refl
none_left (f ∷ fs) e = absurd (omega (arith, e))

pub frames-init : goal.frames-init
frames-init g c = record {
  posts = Halfway-start c.args.serializer (contents c.args.frames.items) (contents c.from_vec-left.result.items) (g.P.Posting.posted c.args.poster.now) (ap contents (sym c.from_vec-left.ensures.items));
  counts = counts_none c.args.serializer (g.P.Posting.posted c.args.poster.now) (g.P.Posting.posted c.args.poster.now) (g.P.Posting.weights c.args.poster.now) (g.P.Posting.weights c.args.poster.now) refl refl;
  returned = refl;
}

pub frames-preserved : goal.frames-preserved
frames-preserved g c =
    let here = subst (λ (xs : List Frame). Halfway c.args.serializer (contents c.args.frames.items) (contents xs) (g.P.Posting.posted c.args.poster.now) (g.P.Posting.posted c.frames.poster)) c.in-Some.ensures.items c.frames.invariant.posts in
    record {
      posts = Halfway-more c.args.serializer (contents c.args.frames.items) (content c.in-Some.frame) (contents c.pop_front.new.self.items) (g.P.Posting.posted c.args.poster.now) (g.P.Posting.posted c.frames.poster) (g.P.Posting.posted c.post_frame.new.poster)
          here c.in_default-post_frame.ensures.posted;
      counts = counts_then c.args.serializer (g.P.Posting.posted c.args.poster.now) (g.P.Posting.posted c.frames.poster) (g.P.Posting.posted c.post_frame.new.poster) (g.P.Posting.weights c.args.poster.now) (g.P.Posting.weights c.frames.poster) (g.P.Posting.weights c.post_frame.new.poster) c.frames.invariant.counts c.in_default-post_frame.ensures.counts;
      returned = omega (arith, c.in_default-post_frame.ensures.returned, c.frames.invariant.returned);
    }

pub returns-in-Err-clause-posted : goal.returns-in-Err-clause-posted
returns-in-Err-clause-posted g c =
    let here = subst (λ (xs : List Frame). Halfway c.args.serializer (contents c.args.frames.items) (contents xs) (g.P.Posting.posted c.args.poster.now) (g.P.Posting.posted c.frames.poster)) c.in-Some.ensures.items c.frames.invariant.posts in
    Halfway-ends c.args.serializer c.in-Err.end None (contents c.args.frames.items) (content c.in-Some.frame) (contents c.pop_front.new.self.items) (g.P.Posting.posted c.args.poster.now) (g.P.Posting.posted c.frames.poster)
    (g.P.Posting.posted c.post_frame.new.poster) here c.in-Err.ensures.posted

pub returns-clause-posted : goal.returns-clause-posted
returns-clause-posted g c =
    Halfway-done c.args.serializer (contents c.args.frames.items) (contents c.frames.left.items) (g.P.Posting.posted c.args.poster.now) (g.P.Posting.posted c.frames.poster)
    (none_left c.frames.left.items (omega (arith, c.in_default.ensures.cases.0, c.frames.left.ok.0))) c.frames.invariant.posts

pub returns-in-Err-clause-counts : goal.returns-in-Err-clause-counts
returns-in-Err-clause-counts g c = counts_then c.args.serializer (g.P.Posting.posted c.args.poster.now) (g.P.Posting.posted c.frames.poster) (g.P.Posting.posted c.post_frame.new.poster) (g.P.Posting.weights c.args.poster.now) (g.P.Posting.weights c.frames.poster) (g.P.Posting.weights c.post_frame.new.poster) c.frames.invariant.counts c.in-Err.ensures.counts
