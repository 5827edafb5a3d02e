use Rattle.cases_actor.proofs.SideLemmas.{taken}
use Rattle.cases_actor.proofs.settling.two_sides.take_one.Goals as goal

pub returns-then-eq-clause-first : goal.returns-then-eq-clause-first
returns-then-eq-clause-first g c = λ d h. taken d c.args.first.now c.take.new.self c.take.ensures.conn c.take.ensures.poster c.take.ensures.pair h

pub returns-then-eq-2-clause-second : goal.returns-then-eq-2-clause-second
returns-then-eq-2-clause-second g c = λ d h. taken d c.args.second.now c.take-then-eq-2.new.self c.take-then-eq-2.ensures.conn c.take-then-eq-2.ensures.poster c.take-then-eq-2.ensures.pair h
