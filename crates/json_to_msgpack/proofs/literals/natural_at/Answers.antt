use Rattle.std.proofs.Common.{◌≡◌, get_or, true, sym, ◌∙◌, arith}
use Rattle.std.proofs.lemmas.List.Sums.{prefix_len-drop_yes, prefix_len-drop_no, prefix_len-drop_all}
use Rattle.std.specs.Char.{is_ascii_digit}
use Rattle.json_to_msgpack.proofs.NaturalWords.{digits_further, natural_word}
use Rattle.json_to_msgpack.proofs.literals.natural_at.Goals as goal

pub digits-preserved : goal.digits-preserved
digits-preserved c =
    let t = c.args.octets.now in
    let l = c.digits in
    let so_far = l.invariant in
    let inside = c.digits-test.true in
    let digit : is_ascii_digit (get_or t l.at 0) ≡ true = sym c.is_ascii_digit.ensures.value ∙ c.if-is_ascii_digit.true in
    let step = digits_further t c.args.from l.at l.value so_far.forward inside digit so_far.value so_far.all in
    record {
      forward = omega (arith, so_far.forward);
      within = omega arith;
      digits = omega (arith, so_far.digits, prefix_len-drop_yes is_ascii_digit t l.at 0 inside digit);
      value = step.0;
      all = step.1;
    }

pub returns-else-is_ascii_digit : goal.returns-else-is_ascii_digit
returns-else-is_ascii_digit c =
    let t = c.args.octets.now in
    let l = c.digits in
    let found = l.invariant in
    let over = prefix_len-drop_no is_ascii_digit t l.at 0 c.digits-test.true (sym c.is_ascii_digit.ensures.value ∙ c.if-is_ascii_digit.false) in
    natural_word t c.args.from l.at l.value c.in_ok-first.first c.in_ok-first.ensures.1 (omega arith) (omega arith) found.forward found.within (omega (arith, found.digits, over)) found.value found.all l.auto.value-fits.fits

pub returns-after-digits : goal.returns-after-digits
returns-after-digits c =
    let t = c.args.octets.now in
    let l = c.digits in
    let found = l.invariant in
    let over = prefix_len-drop_all is_ascii_digit t l.at (omega arith) in
    natural_word t c.args.from l.at l.value c.in_ok-first.first c.in_ok-first.ensures.1 (omega arith) (omega arith) found.forward found.within (omega (arith, found.digits, over)) found.value found.all l.auto.value-fits.fits
