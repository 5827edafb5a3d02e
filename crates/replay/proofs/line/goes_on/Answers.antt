use Rattle.std.proofs.Common.{refl, sym, ap, ◌∙◌, get_or, drop, arith, ◌*◌, ◌+◌, ◌-◌}
use Rattle.replay.specs.Lines.{at_most_256}
use Rattle.replay.proofs.Digits.{goes_on-end, goes_on-more, goes_on-stops, in-range, too-great}
use Rattle.replay.proofs.line.goes_on.Goals as goal

pub loop-digit-init : goal.loop-digit-init
loop-digit-init c = (refl, omega arith)

pub loop-digit-preserved : goal.loop-digit-preserved
loop-digit-preserved c = (
  c.loop-digit.invariant.0 ∙ ap at_most_256 (goes_on-more c.args.digits.now c.loop-digit.digit-index c.loop-digit.number c.loop-digit-test.true (sym c.if-not-is_ascii_digit.ensures.value)),
  c.if-number-gt-GREATEST.false,
)

pub returns-then-not-is_ascii_digit-clause-value : goal.returns-then-not-is_ascii_digit-clause-value
returns-then-not-is_ascii_digit-clause-value c =
    sym (c.loop-digit.invariant.0 ∙ ap at_most_256 (goes_on-stops c.args.digits.now c.loop-digit.digit-index c.loop-digit.number c.loop-digit-test.true (sym c.if-not-is_ascii_digit.ensures.value)))

pub returns-then-number-gt-GREATEST-clause-value : goal.returns-then-number-gt-GREATEST-clause-value
returns-then-number-gt-GREATEST-clause-value c =
    sym (c.loop-digit.invariant.0 ∙ (ap at_most_256 (goes_on-more c.args.digits.now c.loop-digit.digit-index c.loop-digit.number c.loop-digit-test.true (sym c.if-not-is_ascii_digit.ensures.value))
    ∙ too-great (drop (c.loop-digit.digit-index + 1) c.args.digits.now) (c.loop-digit.number * 10 + (get_or c.args.digits.now c.loop-digit.digit-index 0 - 48)) c.if-number-gt-GREATEST.true))

pub returns-clause-value : goal.returns-clause-value
returns-clause-value c =
    sym (c.loop-digit.invariant.0 ∙ (ap at_most_256 (goes_on-end c.args.digits.now c.loop-digit.digit-index c.loop-digit.number c.loop-digit-test.false) ∙ in-range c.loop-digit.number c.loop-digit.invariant.1))
