use Rattle.std.proofs.Common.{Option, List, [], sym, ap, subst}
use Rattle.outbox_queue.specs.Ends.{Sending}
use Rattle.wamp_messages.specs.declared.item.Item.{Item}
use Rattle.cases_connection.proofs.Next.{none_is_left}
use Rattle.cases_connection.specs.Listing.{Names, Owes}
use Rattle.cases_connection.specs.declared.owed.ListHistory.{ListHistory}
use Rattle.cases_connection.proofs.owed.Adder.add.Goals as goal

pub invariant_of-self-in-Err : goal.invariant_of-self-in-Err
invariant_of-self-in-Err g c =
    let a = c.self.inside in
    let none = none_is_left a.listed a.outbox.added a.left.items c.self.invariant.0 in
    let kept = subst (λ (xs : List Item). Owes a.listed xs []) (sym (ap (λ (o : Sending Item ListHistory). o.added) c.in-Err.ensures.1)) none in
    (subst (λ (xs : List Item). Owes a.listed c.add.new.self.added xs) (sym c.clear.ensures.items) kept, subst (λ (h : Option ListHistory). Names a.listed h) (sym (ap (λ (o : Sending Item ListHistory). o.history) c.in-Err.ensures.1)) c.self.invariant.1)
