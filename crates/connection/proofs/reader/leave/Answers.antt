use Rattle.std.proofs.Common.{rules, refl, arith}
use Rattle.connection.proofs.WeightsCounted.{counts_none, counts_one, others_back}
use Rattle.realm_inbox.specs.declared.act.Act.TheVariants.{Gone}
use Rattle.connection.proofs.reader.leave.Goals as goal

pub returns-in-Left-clause-counts : goal.returns-in-Left-clause-counts
returns-in-Left-clause-counts g c = λ s. counts_none s (g.P.Posting.posted c.args.poster.now) (g.P.Posting.posted c.args.poster.now) (g.P.Posting.weights c.args.poster.now) (g.P.Posting.weights c.args.poster.now) refl refl

pub returns-in-Violation-clause-counts : goal.returns-in-Violation-clause-counts
returns-in-Violation-clause-counts g c = λ s. counts_none s (g.P.Posting.posted c.args.poster.now) (g.P.Posting.posted c.args.poster.now) (g.P.Posting.weights c.args.poster.now) (g.P.Posting.weights c.args.poster.now) refl refl

pub returns-in-ActorGone-clause-counts : goal.returns-in-ActorGone-clause-counts
returns-in-ActorGone-clause-counts g c = λ s. counts_none s (g.P.Posting.posted c.args.poster.now) (g.P.Posting.posted c.args.poster.now) (g.P.Posting.weights c.args.poster.now) (g.P.Posting.weights c.args.poster.now) refl refl

pub returns-in-Err : goal.returns-in-Err
returns-in-Err g c = record {
  departs = search rules;
  counts = λ s. counts_none s (g.P.Posting.posted c.args.poster.now) (g.P.Posting.posted c.post.new.poster) (g.P.Posting.weights c.args.poster.now) (g.P.Posting.weights c.post.new.poster) c.in-Err.ensures.back c.in-Err.ensures.weighed;
  returned = omega (arith, c.in-Err.ensures.returned, others_back c.args.end c.in_default.not-ActorGone);
}

pub returns : goal.returns
returns g c = record {
  departs = search rules;
  counts = λ s. counts_one s Gone 0 (g.P.Posting.posted c.args.poster.now) (g.P.Posting.posted c.post.new.poster) (g.P.Posting.weights c.args.poster.now) (g.P.Posting.weights c.post.new.poster) tt c.in_default-post.ensures.posted c.in_default-post.ensures.weighed;
  returned = omega (arith, c.in_default-post.ensures.returned);
}
