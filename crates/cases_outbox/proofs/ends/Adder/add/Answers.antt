use Rattle.std.proofs.Common.{Some, length, ap, ◌∙◌, arith}
use Rattle.cases_outbox.proofs.Places.{counted-at}
use Rattle.cases_outbox.proofs.ends.Adder.add.Goals as goal

pub stamp-item-requires : goal.stamp-item-requires
stamp-item-requires g c =
    let n = c.self.inside.numbers in let step = c.self.invariant.0 in let below = c.if-self.false in let sum = c.in-Some.ensures in
    counted-at n.first n.count (length c.self.inside.outbox.added) (omega (arith, step, below)) ∙ ap Some (omega (arith, step, sum))
