use Rattle.std.proofs.Common.{refl}
use Rattle.connection.proofs.WeightsCounted.{counts_none}
use Rattle.connection.proofs.frames.post_completed.Goals as goal

pub returns-in-None-clause-counts : goal.returns-in-None-clause-counts
returns-in-None-clause-counts g c = counts_none c.args.serializer (g.P.Posting.posted c.args.poster.now) (g.P.Posting.posted c.args.poster.now) (g.P.Posting.weights c.args.poster.now) (g.P.Posting.weights c.args.poster.now) refl refl
