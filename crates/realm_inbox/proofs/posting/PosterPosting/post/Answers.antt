use Rattle.realm_inbox.proofs.PosterLemmas.{posts_on}
use Rattle.realm_inbox.proofs.posting.PosterPosting.post.Goals as goal

pub returns-clause-posted : goal.returns-clause-posted
returns-clause-posted g c = posts_on c.post_quietly.result c.args.act c.args.self.now c.post_quietly.new.self c.post_quietly.ensures.posted c.post_quietly.ensures.same
