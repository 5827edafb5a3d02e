use Rattle.std.proofs.Common.{◌≡◌, ◌+◌, [], ◌∷◌, ◌++◌, MatchResult, sym, ap, subst, ◌∙◌}
use Rattle.std.specs.declared.result.Result.{Result}
use Rattle.ghost_state.specs.GhostList.{items_of}
use Rattle.realm_inbox.specs.declared.act.Act.{Act}
use Rattle.cases_connection.specs.declared.acts.Nowhere.{Nowhere}
use Rattle.cases_connection.proofs.acts.LogPostingNowhere.post.Goals as goal

pub returns-in-Ok-clause-weighed : goal.returns-in-Ok-clause-weighed
returns-in-Ok-clause-weighed g c =
    let more : items_of c.add.new.self ≡ items_of c.args.self.now.weights ++ c.args.octets ∷ [] =
    c.add.ensures ∙ ap (λ x. items_of c.add-posted.new.self.weights ++ x ∷ []) c.of.ensures ∙ ap (λ w. items_of w ++ c.args.octets ∷ []) c.add-posted.ensures.same.0 in
    subst (λ (r : Result Unit (Act Nowhere)). MatchResult r (λ _. items_of c.add.new.self ≡ items_of c.args.self.now.weights ++ c.args.octets ∷ []) (λ _. items_of c.add.new.self ≡ items_of c.args.self.now.weights)) (sym c.in-Ok.is) more

pub returns-in-Ok-clause-returned : goal.returns-in-Ok-clause-returned
returns-in-Ok-clause-returned g c =
    let now = c.add-posted.new.self.returned in
    subst (λ (r : Result Unit (Act Nowhere)). MatchResult r (λ _. now ≡ c.args.self.now.returned) (λ _. now ≡ c.args.self.now.returned + 1)) (sym c.in-Ok.is) c.add-posted.ensures.same.1

pub returns-in-Err-clause-weighed : goal.returns-in-Err-clause-weighed
returns-in-Err-clause-weighed g c =
    let now = c.add-posted.new.self.weights in
    subst (λ (r : Result Unit (Act Nowhere)). MatchResult r (λ _. items_of now ≡ items_of c.args.self.now.weights ++ c.args.octets ∷ []) (λ _. items_of now ≡ items_of c.args.self.now.weights)) (sym c.in-Err.is) (ap items_of c.add-posted.ensures.same.0)

pub returns-in-Err-clause-returned : goal.returns-in-Err-clause-returned
returns-in-Err-clause-returned g c =
    subst (λ (r : Result Unit (Act Nowhere)). MatchResult r (λ _. c.tick.new.self ≡ c.args.self.now.returned) (λ _. c.tick.new.self ≡ c.args.self.now.returned + 1)) (sym c.in-Err.is) (c.tick.ensures ∙ ap (λ n. n + 1) c.add-posted.ensures.same.1)
