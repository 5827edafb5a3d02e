use Rattle.std.proofs.Common.{◌==◌, ◌||◌, ℕ, List, ap, ◌∙◌}
use Rattle.subscription_index.specs.body.Found.{has}
use Rattle.subscription_index.proofs.ConnsLemmas.{ascending-insert}
use Rattle.subscription_index.proofs.HolderCounts.{has-put}
use Rattle.subscription_index.proofs.conns.Conns.insert.Goals as goal

pub invariant_of-self-in-Err : goal.invariant_of-self-in-Err
invariant_of-self-in-Err c =
    let place = rw c.deref.ensures.value at c.in-Err.ensures in
    rw c.in_ok-insert-in-Err.ensures.items (ascending-insert c.self.inside.list.items c.in-Err.place c.args.conn c.self.invariant place)

pub returns-in_ok-insert-in-Err-clause-ok : goal.returns-in_ok-insert-in-Err-clause-ok
returns-in_ok-insert-in-Err-clause-ok c = λ d.
    ap (λ (xs : List ℕ). has xs d) c.in_ok-insert-in-Err.ensures.items ∙ (has-put c.args.conn c.self.inside.list.items c.in-Err.place d
    ∙ ap (λ (xs : List ℕ). c.args.conn == d || has xs d) c.self.view_is)
