use Rattle.std.proofs.Common.{arith}
use Rattle.wamp_ids.proofs.ComponentWalk.{before-none, none_so_far}
use Rattle.wamp_ids.proofs.components.dot_in.Goals as goal

pub loop-i-init : goal.loop-i-init
loop-i-init c = (before-none c.args.text.now, λ k lt. omega (arith, lt))

pub loop-i-2-init : goal.loop-i-2-init
loop-i-2-init c =
    let skipped = c.octets_before_dots-i in
    none_so_far c.args.text.now skipped.result skipped.ensures.within skipped.ensures.none
