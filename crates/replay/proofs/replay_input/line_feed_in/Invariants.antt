use Rattle.std.proofs.Common.{◌≡◌, false, take}
use Rattle.replay.specs.Lines.{has_line_feed}
use Rattle.replay.proofs.replay_input.line_feed_in.Given as goal

abbrev pub invariant-loop-i : goal.invariant-loop-i
invariant-loop-i l = has_line_feed (take l.i l.octets) ≡ false
