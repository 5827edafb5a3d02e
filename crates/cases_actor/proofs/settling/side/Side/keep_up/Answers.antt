use Rattle.std.proofs.Common.{refl}
use Rattle.cases_actor.proofs.SideLemmas.{kept_up}
use Rattle.cases_actor.proofs.settling.side.Side.keep_up.Goals as goal

pub returns-in-Some-clause-side : goal.returns-in-Some-clause-side
returns-in-Some-clause-side c = λ was goes h.
    kept_up was c.args.desk.now c.compare.new.self c.args.self.now _ c.in-Some.poster c.compare.new.poster goes c.compare.ensures.same c.in-Some.is refl refl refl
    c.compare.ensures.poster c.compare.ensures.begins h
