use Rattle.std.proofs.Common.{◌≡◌, [], length, drop, sym, ap, subst, ◌∙◌}
use Rattle.std.proofs.Math.Seq.{drop-length}
use Rattle.realm.specs.Given.{items_for}
use Rattle.realm_core.specs.body.Outboxes.{outbox_of}
use Rattle.realm_core.specs.body.Rest.{IsAtRest}
use Rattle.realm_core.specs.body.Exchange.{course_of}
use Rattle.realm_core.proofs.ExchangeLemmas.{seen, waits}
use Rattle.realm_core.proofs.exchange.Exchange.is_at_rest.Goals as goal

pub returns-then-is_empty-clause-moves : goal.returns-then-is_empty-clause-moves
returns-then-is_empty-clause-moves c = λ not_empty rests.
    let i = c.self.inside in
    let here : IsAtRest (course_of i) = subst IsAtRest (sym c.self.view_is) rests in
    let some = c.are_empty.ensures.some not_empty in
    let taken = items_for some.0 (seen i.taken.items) in
    let none : outbox_of i.outboxes some.0 ≡ [] =
    sym (waits some.0 (seen i.added.items) (seen i.taken.items) i.outboxes c.self.invariant.between) ∙ ap (drop (length taken)) (here.all_taken some.0) ∙ drop-length taken in
    some.1 none
