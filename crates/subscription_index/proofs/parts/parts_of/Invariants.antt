use Rattle.std.proofs.Common.{◌≡◌, ◌++◌, map, length}
use Rattle.wamp_ids.specs.Uri.{components}
use Rattle.subscription_index.proofs.parts.parts_of.Given as goal

abbrev pub invariant-loop-i : goal.invariant-loop-i
invariant-loop-i l = map (λ p. p.now) l.parts.items ++ components l.rest ≡ components l.fn.topic

abbrev pub decreases-loop-i : goal.decreases-loop-i
decreases-loop-i l = length l.rest
