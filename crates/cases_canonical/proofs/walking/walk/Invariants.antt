use Rattle.std.proofs.Common.{length}
use Rattle.cases_canonical.proofs.walking.walk.Given as goal

-- each entry that is read is one less that is left
abbrev pub decreases-loop-key : goal.decreases-loop-key
decreases-loop-key l = length l.entries
