use Rattle.std.proofs.Common.{length, drop, ap, arith, length-append}
use Rattle.std.proofs.lemmas.Fmt.{length-decimal-le}
use Rattle.std.proofs.lemmas.List.{length-drop}
use Rattle.std.specs.Prelude.{decimal}
use Rattle.session.proofs.wire.event_head.EventHead.put_digits.Goals as goal

pub write_digits-self-inside-requires : goal.write_digits-self-inside-requires
write_digits-self-inside-requires c =
    let few = length-decimal-le 20 c.args.number (omega arith) (omega (arith, c.ranges.number.fits)) c.ranges.number.fits in
    let room = ap length c.self.view_is in
    (omega (arith, few, room, length-drop c.self.inside.start c.self.inside.octets, c.requires, c.self.told, c.self.invariant), omega (arith, c.self.told, c.self.invariant))

pub returns-clause-few : goal.returns-clause-few
returns-clause-few c =
    let few = length-decimal-le 20 c.args.number (omega arith) (omega (arith, c.ranges.number.fits)) c.ranges.number.fits in
    let before = drop c.self.inside.start c.self.inside.octets in
    omega (arith, few, ap length c.write_digits-self-inside.ensures.written, length-append (decimal c.args.number) before, ap length c.self.view_is)
