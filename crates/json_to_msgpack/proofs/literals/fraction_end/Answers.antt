use Rattle.std.proofs.Common.{◌≡◌, ◌+◌, ◌∷◌, drop, refl, ap, ◌∙◌, arith}
use Rattle.json.specs.Word.{after_digits, after_fraction}
use Rattle.json_to_msgpack.proofs.Found.{some_weaker}
use Rattle.json_to_msgpack.proofs.WordParts.{octet_then}
use Rattle.json_to_msgpack.proofs.literals.fraction_end.Goals as goal

pub returns-in-Some-eq46 : goal.returns-in-Some-eq46
returns-in-Some-eq46 c =
    let t = c.args.octets.now in
    let i = c.args.from in
    let inside = c.in-Some-eq46.ensures.0 in
    let is : c.in-Some-eq46.field-0 ≡ 46 = omega arith in
    let begins : drop i t ≡ 46 ∷ drop (i + 1) t = c.in-Some-eq46.ensures.1 ∙ ap (λ x. x ∷ drop (i + 1) t) is in
    some_weaker c.some_digits.result _ _ (λ j h. octet_then t i j 46 (after_fraction (drop i t)) (after_digits (drop (i + 1) t)) inside begins refl (ap after_fraction begins) h) c.some_digits.ensures
