use Rattle.std.proofs.Common.{◌≡◌, ◌≤◌, drop}
use Rattle.replay.specs.Lines.{at_most_256, goes_on}
use Rattle.replay.proofs.line.goes_on.Given as goal

abbrev pub invariant-loop-digit : goal.invariant-loop-digit
invariant-loop-digit l = (at_most_256 (goes_on 0 l.digits) ≡ at_most_256 (goes_on l.number (drop l.digit-index l.digits))) × (l.number ≤ 256)
