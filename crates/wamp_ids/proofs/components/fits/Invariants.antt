use Rattle.std.proofs.Common.{◌≡◌, length}
use Rattle.wamp_ids.specs.Uri.{components}
use Rattle.wamp_ids.specs.Pattern.{fits}
use Rattle.wamp_ids.proofs.components.fits.Given as goal

abbrev pub invariant-loop-pattern : goal.invariant-loop-pattern
invariant-loop-pattern l = fits (components l.pattern) (components l.topic) ≡ fits (components l.fn.pattern) (components l.fn.topic)

abbrev pub decreases-loop-pattern : goal.decreases-loop-pattern
decreases-loop-pattern l = length l.pattern
