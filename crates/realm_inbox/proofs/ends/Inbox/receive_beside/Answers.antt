use Rattle.std.proofs.Common.{◌≡◌, [], ◌∷◌, ◌++◌, ap, ◌∙◌, subst}
use Rattle.std.specs.Prelude.{MatchOption}
use Rattle.realm_inbox.specs.EndViews.{received}
use Rattle.realm_inbox.specs.SeatLines.{waiting}
use Rattle.realm_inbox.proofs.ends.Inbox.receive_beside.Goals as goal

pub take_beside-requires-clause-free : goal.take_beside-requires-clause-free
take_beside-requires-clause-free g c = ap (λ k. waiting c.give_waiting.new.self.lines k) c.args.poster.now.own ∙ c.in_default.ensures.none.0

pub returns-clause-given : goal.returns-clause-given
returns-clause-given g c =
    let now = received c.take_beside.new.self in
    subst (λ got. MatchOption c.take_beside.result (now ≡ got) (λ p. now ≡ got ++ p ∷ [])) c.in_default.ensures.given c.take_beside.ensures.given
