use Rattle.std.proofs.Common.{refl}
use Rattle.connection.proofs.FramesPosted.{fault_posted}
use Rattle.connection.proofs.WeightsCounted.{counts_none}
use Rattle.connection.proofs.frames.post_fault.Goals as goal

pub returns-in-Ok-clause-posted : goal.returns-in-Ok-clause-posted
returns-in-Ok-clause-posted g c = λ s. fault_posted s c.args.fault c.in-Some.fault c.from.result (g.P.Posting.posted c.args.poster.now) (g.P.Posting.posted c.post.new.poster) c.in-Some.is c.from.ensures c.in-Ok.ensures.posted

pub returns-in_default-clause-counts : goal.returns-in_default-clause-counts
returns-in_default-clause-counts g c = λ s. counts_none s (g.P.Posting.posted c.args.poster.now) (g.P.Posting.posted c.args.poster.now) (g.P.Posting.weights c.args.poster.now) (g.P.Posting.weights c.args.poster.now) refl refl

pub returns-in-Err-clause-counts : goal.returns-in-Err-clause-counts
returns-in-Err-clause-counts g c = λ s. counts_none s (g.P.Posting.posted c.args.poster.now) (g.P.Posting.posted c.post.new.poster) (g.P.Posting.weights c.args.poster.now) (g.P.Posting.weights c.post.new.poster) c.in-Err.ensures.back c.in-Err.ensures.weighed
