use Rattle.std.proofs.Common.{◌≡◌, ◌+◌, ◌∷◌, drop, refl, ap, ◌∙◌, arith}
use Rattle.json.specs.Word.{after_digits, after_sign, after_exponent}
use Rattle.json_to_msgpack.proofs.Found.{some_weaker}
use Rattle.json_to_msgpack.proofs.WordParts.{octet_then}
use Rattle.json_to_msgpack.proofs.literals.exponent_end.Goals as goal

pub returns-in-Some-eq101 : goal.returns-in-Some-eq101
returns-in-Some-eq101 c =
    let t = c.args.octets.now in
    let i = c.args.from in
    let inside = c.in-Some-eq101.ensures.0 in
    let is : c.in-Some-eq101.field-0 ≡ 101 = omega arith in
    let begins : drop i t ≡ 101 ∷ drop (i + 1) t = c.in-Some-eq101.ensures.1 ∙ ap (λ x. x ∷ drop (i + 1) t) is in
    some_weaker c.signed_end.result _ _ (λ j h. octet_then t i j 101 (after_exponent (drop i t)) (after_digits (after_sign (drop (i + 1) t))) inside begins refl (ap after_exponent begins) h) c.signed_end.ensures

pub returns-in-Some-eq69 : goal.returns-in-Some-eq69
returns-in-Some-eq69 c =
    let t = c.args.octets.now in
    let i = c.args.from in
    let inside = c.in-Some-eq69.ensures.0 in
    let is : c.in-Some-eq69.field-0 ≡ 69 = omega arith in
    let begins : drop i t ≡ 69 ∷ drop (i + 1) t = c.in-Some-eq69.ensures.1 ∙ ap (λ x. x ∷ drop (i + 1) t) is in
    some_weaker c.signed_end-in-Some-eq69.result _ _ (λ j h. octet_then t i j 69 (after_exponent (drop i t)) (after_digits (after_sign (drop (i + 1) t))) inside begins refl (ap after_exponent begins) h) c.signed_end-in-Some-eq69.ensures
