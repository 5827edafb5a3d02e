use Rattle.std.proofs.Common.{rules, arith, refl, sym, ◌∙◌, None, [], ◌∷◌}
use Rattle.realm_inbox.specs.declared.act.Act.TheVariants.{Said, Spoilt}
use Rattle.connection.proofs.FramesPosted.{back_posted, says_more, says_farewell, says_nothing}
use Rattle.connection.proofs.WeightsCounted.{counts_none, counts_one}
use Rattle.connection.proofs.frames.post_message.Goals as goal

pub returns-in-Err-clause-posted : goal.returns-in-Err-clause-posted
returns-in-Err-clause-posted g c = record { acts = Spoilt ∷ []; posted = c.in_default.ensures.posted; posts = says_nothing c.args.serializer c.in-Err.fault c.args.payload.now (c.in-Err.ensures.bad (search rules)) }

pub returns-then-last-clause-posted : goal.returns-then-last-clause-posted
returns-then-last-clause-posted g c = record {
  acts = Said c.in-Ok.said ∷ [];
  posted = c.in_default-post.ensures.posted;
  posts = says_farewell c.args.serializer c.in-Ok.said c.args.payload.now c.in-Ok.ensures.ok (sym c.is_last-last.ensures ∙ c.if-last.true);
}

pub returns-clause-posted : goal.returns-clause-posted
returns-clause-posted g c = record {
  acts = Said c.in-Ok.said ∷ [];
  posted = c.in_default-post.ensures.posted;
  posts = says_more c.args.serializer c.in-Ok.said c.args.payload.now c.in-Ok.ensures.ok (sym c.is_last-last.ensures ∙ c.if-last.false);
}

pub returns-in-Err-NoMemory-clause-counts : goal.returns-in-Err-NoMemory-clause-counts
returns-in-Err-NoMemory-clause-counts g c = counts_none c.args.serializer (g.P.Posting.posted c.args.poster.now) (g.P.Posting.posted c.args.poster.now) (g.P.Posting.weights c.args.poster.now) (g.P.Posting.weights c.args.poster.now) refl refl

pub returns-in-Err-post : goal.returns-in-Err-post
returns-in-Err-post g c = record {
  posted = back_posted c.args.serializer c.in-Err-post.end None _ (g.P.Posting.posted c.args.poster.now) (g.P.Posting.posted c.post.new.poster) c.in-Err-post.ensures.end c.in-Err-post.ensures.back;
  counts = counts_none c.args.serializer (g.P.Posting.posted c.args.poster.now) (g.P.Posting.posted c.post.new.poster) (g.P.Posting.weights c.args.poster.now) (g.P.Posting.weights c.post.new.poster) c.in-Err-post.ensures.back c.in-Err-post.ensures.weighed;
  returned = c.in-Err-post.ensures.returned;
}

pub returns-in-Err-post-2-clause-counts : goal.returns-in-Err-post-2-clause-counts
returns-in-Err-post-2-clause-counts g c = counts_none c.args.serializer (g.P.Posting.posted c.args.poster.now) (g.P.Posting.posted c.post-2.new.poster) (g.P.Posting.weights c.args.poster.now) (g.P.Posting.weights c.post-2.new.poster) c.in-Err-post-2.ensures.back c.in-Err-post-2.ensures.weighed

pub returns-then-last-clause-counts : goal.returns-then-last-clause-counts
returns-then-last-clause-counts g c =
    counts_one c.args.serializer (Said c.in-Ok.said) _ (g.P.Posting.posted c.args.poster.now) (g.P.Posting.posted c.post-2.new.poster) (g.P.Posting.weights c.args.poster.now) (g.P.Posting.weights c.post-2.new.poster) (c.args.payload.now, c.in-Ok.ensures.ok, omega (arith, c.weight_of-octets.ensures.least)) c.in_default-post.ensures.posted c.in_default-post.ensures.weighed

pub returns-clause-counts : goal.returns-clause-counts
returns-clause-counts g c =
    counts_one c.args.serializer (Said c.in-Ok.said) _ (g.P.Posting.posted c.args.poster.now) (g.P.Posting.posted c.post-2.new.poster) (g.P.Posting.weights c.args.poster.now) (g.P.Posting.weights c.post-2.new.poster) (c.args.payload.now, c.in-Ok.ensures.ok, omega (arith, c.weight_of-octets.ensures.least)) c.in_default-post.ensures.posted c.in_default-post.ensures.weighed
