use Rattle.std.proofs.Common.{List, ℕ, not, eqb, ◌&&◌, ap, ◌∙◌, rules}
use Rattle.std.proofs.lemmas.Fn.{filter_same}
use Rattle.subscription_index.specs.body.Found.{has}
use Rattle.subscription_index.proofs.ConnsLemmas.{ascending-kept}
use Rattle.subscription_index.proofs.HolderCounts.{has-filter}
use Rattle.subscription_index.proofs.conns.Conns.remove.Goals as goal

pub invariant_of-self : goal.invariant_of-self
invariant_of-self c =
    rw (filter_same _ (λ x. not (eqb x c.args.conn)) _ (λ x b f' k. search rules) _ _ c.retain.ensures.filtered)
    (ascending-kept (λ x. not (eqb x c.args.conn)) c.self.inside.list.items c.self.invariant)

pub returns : goal.returns
returns c = λ d.
    ap (λ (xs : List ℕ). has xs d) (filter_same _ (λ x. not (eqb x c.args.conn)) _ (λ x b f' k. search rules) _ _ c.retain.ensures.filtered)
    ∙ (has-filter c.args.conn c.self.inside.list.items d ∙ ap (λ (xs : List ℕ). not (eqb c.args.conn d) && has xs d) c.self.view_is)
