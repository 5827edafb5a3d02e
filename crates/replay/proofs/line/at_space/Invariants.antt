use Rattle.std.proofs.Common.{◌≡◌, take, drop}
use Rattle.replay.specs.Lines.{at_space}
use Rattle.replay.proofs.FirstSpace.{fronted}
use Rattle.replay.proofs.line.at_space.Given as goal

abbrev pub invariant-loop-i : goal.invariant-loop-i
invariant-loop-i l = at_space l.octets ≡ fronted (take l.i l.octets) (at_space (drop l.i l.octets))
