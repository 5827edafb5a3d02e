use Rattle.wamp_ids.specs.Uri.{components}
use Rattle.subscription_index.proofs.ShapesLemmas.{ShapesLeadTo}
use Rattle.subscription_index.proofs.shapes.add_fitting.Given as goal

abbrev pub invariant-loop-shape : goal.invariant-loop-shape
invariant-loop-shape l = ShapesLeadTo l.shapes.entries l.shape-iterator (components l.topic) l.fn.numbers.items l.numbers.items
