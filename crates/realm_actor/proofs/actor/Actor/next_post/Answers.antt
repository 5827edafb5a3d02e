use Rattle.std.proofs.Common.{◌≡◌, [], ◌∷◌, ◌++◌, ap, ◌∙◌, subst}
use Rattle.std.specs.Prelude.{IfSome, MatchOption}
use Rattle.realm_inbox.specs.EndViews.{received}
use Rattle.realm_inbox.specs.Seats.{IsHomed, IsNext}
use Rattle.realm_inbox.specs.Behind.{IsBehind}
use Rattle.std.proofs.lemmas.Option.{MatchOption-at_none, MatchOption-at_some}
use Rattle.realm_actor.proofs.actor.Actor.next_post.Goals as goal

pub returns-in-Some-clause-given : goal.returns-in-Some-clause-given
returns-in-Some-clause-given g c =
    let was = received c.args.inbox.now in
    let now = received c.try_receive-ready.new.self in
    MatchOption-at_some (now ≡ was) (λ p. now ≡ was ++ p ∷ []) c.in-Some.post c.in-Some.is c.try_receive-ready.ensures.given

pub returns-clause-given : goal.returns-clause-given
returns-clause-given g c =
    let was = received c.args.inbox.now in
    let first = received c.try_receive-ready.new.self in
    let now = received c.wait_for_post-post.new.inbox in
    let none : first ≡ was = MatchOption-at_none (first ≡ was) (λ p. first ≡ was ++ p ∷ []) c.in_default.is c.try_receive-ready.ensures.given in
    subst (λ got. MatchOption c.wait_for_post-post.result (now ≡ got) (λ p. now ≡ got ++ p ∷ [])) none c.wait_for_post-post.ensures.given

pub returns-clause-in_turn : goal.returns-clause-in_turn
returns-clause-in_turn g c =
    let was = received c.args.inbox.now in
    let first = received c.try_receive-ready.new.self in
    let none : first ≡ was = MatchOption-at_none (first ≡ was) (λ p. first ≡ was ++ p ∷ []) c.in_default.is c.try_receive-ready.ensures.given in
    subst (λ got. IfSome c.wait_for_post-post.result (λ p. IsNext got p)) none c.wait_for_post-post.ensures.in_turn

pub returns-clause-behind : goal.returns-clause-behind
returns-clause-behind g c =
    let was = received c.args.inbox.now in
    let first = received c.try_receive-ready.new.self in
    let none : first ≡ was = MatchOption-at_none (first ≡ was) (λ p. first ≡ was ++ p ∷ []) c.in_default.is c.try_receive-ready.ensures.given in
    subst (λ got. IfSome c.wait_for_post-post.result (λ p. IsBehind got p)) none c.wait_for_post-post.ensures.behind

pub returns-clause-home : goal.returns-clause-home
returns-clause-home g c = subst (λ h. IfSome c.wait_for_post-post.result (λ p. IsHomed h p)) (ap (λ p. p.2) c.try_receive-ready.ensures.same.0) c.wait_for_post-post.ensures.home

pub returns-clause-same : goal.returns-clause-same
returns-clause-same g c = c.wait_for_post-post.ensures.same ∙ c.try_receive-ready.ensures.same.0
