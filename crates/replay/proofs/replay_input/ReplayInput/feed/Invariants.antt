use Rattle.std.proofs.Common.{length}
use Rattle.replay.proofs.TranscriptSteps.{Consumed}
use Rattle.replay.proofs.replay_input.ReplayInput.feed.Given as goal

abbrev pub invariant-loop-at : goal.invariant-loop-at
invariant-loop-at l = Consumed l.fn.self l.piece l.left l.self

abbrev pub decreases-loop-at : goal.decreases-loop-at
decreases-loop-at l = length l.left
