use Rattle.std.proofs.Common.{◌≡◌, [], ◌∷◌, ◌++◌, subst}
use Rattle.std.specs.Prelude.{MatchResult}
use Rattle.realm_inbox.specs.EndViews.{received}
use Rattle.realm_inbox.proofs.ends.Inbox.look.Goals as goal

pub returns-clause-given : goal.returns-clause-given
returns-clause-given g c =
    let now = received c.deal.new.self in
    subst (λ got. MatchResult c.deal.result (λ p. now ≡ got ++ p ∷ []) (λ _. now ≡ got)) c.take_in-why.ensures.none c.deal.ensures.given
