use Rattle.std.proofs.Common.{◌≡◌, ◌++◌, ◌+◌, length}
use Rattle.wamp_ids.specs.Uri.{components}
use Rattle.subscription_index.specs.body.Pieces.{starts_of}
use Rattle.subscription_index.proofs.deep.starts_of.Given as goal

abbrev pub invariant-loop-i : goal.invariant-loop-i
invariant-loop-i l = (l.starts.items ++ starts_of l.at (components l.rest) ≡ starts_of 0 (components l.fn.topic)) × (l.at + length l.rest ≡ length l.fn.topic)

abbrev pub decreases-loop-i : goal.decreases-loop-i
decreases-loop-i l = length l.rest
