use Rattle.chronicle.proofs.RuleSteps.{begun}
use Rattle.chronicle.proofs.chronicle.Chronicle.new.Goals as goal

pub ruled-requires-clause-rule : goal.ruled-requires-clause-rule
ruled-requires-clause-rule g c = let o = g.H.History in begun o.begins o.begins_itself o.begins_on
