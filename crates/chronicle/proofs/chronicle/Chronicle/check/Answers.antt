use Rattle.std.proofs.Common.{ap}
use Rattle.chronicle.proofs.RuleSteps.{checks, shows}
use Rattle.chronicle.proofs.chronicle.Chronicle.check.Goals as goal

pub absorb-requires-clause-rule : goal.absorb-requires-clause-rule
absorb-requires-clause-rule g c = let o = g.H.History in checks o.begins o.begins_itself o.begins_on _ _ _ _ (ap (λ v. v.owns) c.self.invariant.1)

pub learn_as-requires-clause-rule : goal.learn_as-requires-clause-rule
learn_as-requires-clause-rule g c = let o = g.H.History in shows o.begins o.begins_itself o.begins_on _ _ (ap (λ v. v.owns) c.absorb.ensures.rule)
