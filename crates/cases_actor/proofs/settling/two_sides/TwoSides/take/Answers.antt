use Rattle.std.proofs.Common.{sym, ◌∙◌}
use Rattle.cases_actor.proofs.settling.two_sides.TwoSides.take.Goals as goal

pub invariant_of-self : goal.invariant_of-self
invariant_of-self g c =
    let i = c.self.invariant in
    (i.0, c.take_one.ensures.first _ i.1, c.take_one.ensures.second _ i.2, λ e. i.3 (sym c.take_one.ensures.conns.0 ∙ e ∙ c.take_one.ensures.conns.1))
