use Rattle.std.proofs.Common.{◌<◌, ◌∙◌, length, sym, ap, arith}
use Rattle.std.proofs.lemmas.Bool.Decides.{nat_tests}
use Rattle.replay.specs.Lines.{from_1}
use Rattle.replay.proofs.Digits.{conn-new, conn-range, number_in-some}
use Rattle.replay.proofs.line.number_in.Goals as goal

pub returns-clause-value : goal.returns-clause-value
returns-clause-value c =
    let some : 0 < length c.args.digits.now = grind (arith, nat_tests) in
    conn-new c.new.result c.in_ok-number.number c.new.ensures.value c.new.ensures.zero
    ∙ (ap from_1 c.in_ok-number.ensures.value ∙ sym (number_in-some c.args.digits.now some c.if-digits-eq48.false))

pub returns-clause-range : goal.returns-clause-range
returns-clause-range c = conn-range c.new.result c.in_ok-number.number c.in_ok-number.ensures.small c.new.ensures.value c.new.ensures.zero
