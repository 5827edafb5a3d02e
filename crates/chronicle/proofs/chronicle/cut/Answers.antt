use Rattle.std.proofs.Common.{sym, subst}
use Rattle.crossbeam_queue.specs.Passes.{view as shown}
use Rattle.chronicle.specs.Recorded.{Reaches}
use Rattle.chronicle.proofs.RuleSteps.{records}
use Rattle.chronicle.proofs.chronicle.cut.Goals as goal

pub another-requires-clause-rule : goal.another-requires-clause-rule
another-requires-clause-rule g c =
    let o = g.H.History in
    records o.begins o.begins_itself o.begins_on _ _ g.J.Naming.next c.requires.owns (subst (λ h. Reaches o.begins (shown c.args.place.now).history h) (sym c.requires.next) c.requires.longer)
