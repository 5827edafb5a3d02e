use Rattle.std.proofs.Common.{◌≡◌, [], ◌∷◌, ◌++◌, MatchResult, sym, ap, subst, ◌∙◌}
use Rattle.std.specs.declared.result.Result.{Result}
use Rattle.ghost_state.specs.GhostList.{items_of}
use Rattle.realm_inbox.specs.declared.act.Act.{Act}
use Rattle.realm_inbox.proofs.ends.Poster.post_quietly.Goals as goal

pub returns-in-Ok-clause-weighed : goal.returns-in-Ok-clause-weighed
returns-in-Ok-clause-weighed g c =
    let more : items_of c.add.new.self ≡ items_of c.args.self.now.weights ++ c.args.octets ∷ [] = c.add.ensures ∙ ap (λ x. items_of c.args.self.now.weights ++ x ∷ []) c.of.ensures in
    subst (λ (r : Result Unit (Act g.row.S.Denot)). MatchResult r (λ _. items_of c.add.new.self ≡ items_of c.args.self.now.weights ++ c.args.octets ∷ []) (λ _. items_of c.add.new.self ≡ items_of c.args.self.now.weights)) (sym c.in-Ok.is) more
