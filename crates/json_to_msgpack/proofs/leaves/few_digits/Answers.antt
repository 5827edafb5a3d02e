use Rattle.std.proofs.Common.{◌≡◌, ℕ, ◌<◌, ◌==◌, List, [], ◌∷◌, length, take, false, subst, sym, ap, ◌∙◌, arith}
use Rattle.std.proofs.lemmas.List.{take_all}
use Rattle.std.specs.Str.Parse.{digits_value, AllDigits}
use Rattle.json_to_msgpack.proofs.Naturals.{digit_more, digits_number}
use Rattle.json_to_msgpack.proofs.leaves.few_digits.Goals as goal

some_digits : (s : List ℕ) → (length s == 0) ≡ false → 0 < length s
some_digits [] e = absurd cc
some_digits (x ∷ s) e = omega arith

pub digits-preserved : goal.digits-preserved
digits-preserved c =
    let turn = c.digits in
    let step = digit_more c.args.number.now turn.octet-index turn.value c.digits-test.true c.if-octet-lt48.false c.if-octet-gt57.false turn.invariant.value turn.invariant.all in
    record { value = step.0; all = step.1 }

pub returns : goal.returns
returns c =
    let s = c.args.number.now in
    let turn = c.digits in
    let whole : take turn.octet-index s ≡ s = take_all turn.octet-index s c.digits-test.false in
    digits_number s turn.value (some_digits s (sym c.is_empty.ensures ∙ c.if-is_empty.false)) (subst (AllDigits 10) whole turn.invariant.all) (turn.invariant.value ∙ ap (digits_value 10) whole) turn.auto.value-fits.fits
