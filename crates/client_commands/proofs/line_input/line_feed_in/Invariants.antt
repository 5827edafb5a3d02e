use Rattle.std.proofs.Common.{◌≡◌, false, take}
use Rattle.client_commands.specs.Lines.{has_line_feed}
use Rattle.client_commands.proofs.line_input.line_feed_in.Given as goal

abbrev pub invariant-loop-i : goal.invariant-loop-i
invariant-loop-i l = has_line_feed (take l.i l.octets) ≡ false
