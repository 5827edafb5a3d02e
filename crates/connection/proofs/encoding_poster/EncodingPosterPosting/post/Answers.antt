use Rattle.std.proofs.Common.{◌≡◌, ◌∷◌, [], MatchResult, subst}
use Rattle.realm_inbox.specs.Posted.{with_acts}
use Rattle.realm_inbox.specs.declared.act.Act.{Act}
use Rattle.connection.proofs.encoding_poster.EncodingPosterPosting.post.Goals as goal

pub returns-clause-posted : goal.returns-clause-posted
returns-clause-posted g c =
    subst (λ (a : Act g.row.S.Denot). MatchResult c.post.result (λ _. g.P.Posting.posted c.post.new.self ≡ with_acts (g.P.Posting.posted c.args.self.now.poster) (a ∷ [])) (λ back. (back ≡ a) × (g.P.Posting.posted c.post.new.self ≡ g.P.Posting.posted c.args.self.now.poster)))
    c.encoded-act.ensures c.post.ensures.posted
