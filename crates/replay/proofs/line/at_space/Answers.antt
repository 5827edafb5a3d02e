use Rattle.std.proofs.Common.{sym, ap, ◌∙◌, take, Some}
use Rattle.replay.specs.Lines.{at_space}
use Rattle.replay.proofs.FirstSpace.{fronted-end, fronted-found, fronted-more, fronted-nil, rest-after}
use Rattle.replay.proofs.line.at_space.Goals as goal

pub loop-i-init : goal.loop-i-init
loop-i-init c = fronted-nil (at_space c.args.octets.now)

pub loop-i-preserved : goal.loop-i-preserved
loop-i-preserved c = c.loop-i.invariant ∙ fronted-more c.args.octets.now c.loop-i.i c.loop-i-test.true c.if-octets-i-eq32.false

pub returns-then-octets-i-eq32 : goal.returns-then-octets-i-eq32
returns-then-octets-i-eq32 c =
    ap (λ xs. Some (take c.loop-i.i c.args.octets.now, xs)) (rest-after c.args.octets.now c.loop-i.i c.loop-i-test.true)
    ∙ sym (c.loop-i.invariant ∙ fronted-found c.args.octets.now c.loop-i.i c.loop-i-test.true c.if-octets-i-eq32.true)

pub returns : goal.returns
returns c = sym (c.loop-i.invariant ∙ fronted-end c.args.octets.now c.loop-i.i c.loop-i-test.false)
