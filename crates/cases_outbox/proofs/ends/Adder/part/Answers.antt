use Rattle.std.proofs.Common.{arith}
use Rattle.cases_outbox.proofs.Places.{vouched}
use Rattle.cases_outbox.proofs.ends.Adder.part.Goals as goal

pub hand_over-requires-clause-vouches : goal.hand_over-requires-clause-vouches
hand_over-requires-clause-vouches c =
    let a = c.self.inside in let long = c.self.invariant.0 in let all = c.if-added-numbers.false in
    vouched a.numbers a.outbox.history a.outbox.conn a.outbox.added a.outbox.full_finds c.self.invariant.1 c.shows.ensures.owed (omega (arith, long, all))
