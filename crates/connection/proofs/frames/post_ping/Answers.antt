use Rattle.std.proofs.Common.{length, ap, arith}
use Rattle.realm_inbox.specs.declared.act.Act.TheVariants.{Ping}
use Rattle.connection.proofs.FramesPosted.{ping_posted}
use Rattle.connection.proofs.WeightsCounted.{counts_tried}
use Rattle.connection.proofs.frames.post_ping.Goals as goal

pub returns-clause-posted : goal.returns-clause-posted
returns-clause-posted g c = λ s. ping_posted s c.post.result c.args.payload (g.P.Posting.posted c.args.poster.now) (g.P.Posting.posted c.post.new.poster) c.post.ensures.posted c.post.ensures.back c.post.ensures.end

pub returns-clause-counts : goal.returns-clause-counts
returns-clause-counts g c = λ s.
    counts_tried s c.post.result (Ping c.args.payload) (length c.as_slice-octets.result.now) (g.P.Posting.posted c.args.poster.now) (g.P.Posting.posted c.post.new.poster) (g.P.Posting.weights c.args.poster.now) (g.P.Posting.weights c.post.new.poster) (omega (arith, ap length c.as_slice-octets.ensures)) c.post.ensures.posted c.post.ensures.back c.post.ensures.weighed
