use Rattle.std.proofs.Common.{◌≤◌, ◌+◌, length, refl, arith}
use Rattle.wamp_ids.proofs.ComponentWalk.{none_more}
use Rattle.wamp_ids.proofs.components.octets_before_dots.Goals as goal

pub loop-at-preserved : goal.loop-at-preserved
loop-at-preserved c =
    let text = c.args.text.now in
    let at = c.loop-at.at in
    let within : at + 64 ≤ length text = omega (arith, c.loop-at-test.true, c.loop-at.invariant.0) in
    (within, none_more text at 64 within c.loop-at.invariant.1 (c.if-has_dot.ensures refl))
