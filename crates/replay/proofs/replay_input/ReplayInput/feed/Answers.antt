use Rattle.std.proofs.Common.{sym, subst, take, drop, ◌+◌}
use Rattle.replay.proofs.FirstSpace.{rest-after}
use Rattle.replay.proofs.TranscriptSteps.{Consumed, Consumed-more, Stops-piece, Stops-rest}
use Rattle.replay.proofs.replay_input.ReplayInput.feed.Goals as goal

pub returns-in-Err-clause-bad : goal.returns-in-Err-clause-bad
returns-in-Err-clause-bad c = λ k is.
    let left = c.loop-at.left.now in
    let at = c.in-Some.at in
    Stops-piece c.args.self.now c.loop-at.self c.take_line.new.self c.args.piece.now left (take at left) (drop (at + 1) left) k c.loop-at.invariant c.in-Some.ensures.at (c.in-Err.ensures.bad k is)

pub loop-at-preserved : goal.loop-at-preserved
loop-at-preserved c =
    let left = c.loop-at.left.now in
    let at = c.in-Some.at in
    let u = c.loop-at.self in
    let v = c.take_line.new.self in
    subst (λ l. Consumed c.args.self.now c.args.piece.now l v) (sym (rest-after left at c.in-Some.ensures.within))
    (Consumed-more c.args.self.now u v c.args.piece.now left (take at left) (drop (at + 1) left) c.loop-at.invariant c.in-Some.ensures.at c.in_default-take_line.ensures.told c.in_default-take_line.ensures.count)

pub returns-clause-bad : goal.returns-clause-bad
returns-clause-bad c = λ k is. Stops-rest c.args.self.now c.loop-at.self c.take_rest.new.self c.args.piece.now c.loop-at.left.now k c.loop-at.invariant (c.take_rest.ensures.bad k is)
