use Rattle.std.proofs.Common.{◌+◌, ◌≤◌, length}
use Rattle.wamp_ids.specs.Uri.{components}
use Rattle.subscription_index.proofs.PiecesLemmas.{Drafted}
use Rattle.subscription_index.proofs.pieces.deep_of.Given as goal

abbrev pub invariant-loop-i : goal.invariant-loop-i
invariant-loop-i l = Drafted l.draft (components l.fn.text) (components l.rest) l.dots × (l.dots + length l.rest ≤ length l.fn.text)

abbrev pub decreases-loop-i : goal.decreases-loop-i
decreases-loop-i l = length l.rest
