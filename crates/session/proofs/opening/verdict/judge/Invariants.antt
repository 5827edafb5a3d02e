use Rattle.std.proofs.Common.{length}
use Rattle.rawsocket.specs.Frames.{contents}
use Rattle.session.proofs.FrameWalkLemmas.{Walking}
use Rattle.session.proofs.opening.verdict.judge.Given as goal

abbrev pub invariant-loop-frame : goal.invariant-loop-frame
invariant-loop-frame l = Walking l.client.serializer l.client.limit l.realms l.fault (contents l.fn.frames.items) (contents l.left.items) l.fn.out.items l.out.items

abbrev pub decreases-loop-frame : goal.decreases-loop-frame
decreases-loop-frame l = length l.left.items
