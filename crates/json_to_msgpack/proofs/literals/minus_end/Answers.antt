use Rattle.std.proofs.Common.{◌≡◌, ◌+◌, ◌∷◌, Some, drop, refl, ap, ◌∙◌, arith}
use Rattle.json.specs.Word.{after_minus}
use Rattle.json_to_msgpack.proofs.WordParts.{part_octet}
use Rattle.json_to_msgpack.proofs.literals.minus_end.Goals as goal

pub returns-in-Some-eq45 : goal.returns-in-Some-eq45
returns-in-Some-eq45 c =
    let t = c.args.octets.now in
    let i = c.args.from in
    let inside = c.in-Some-eq45.ensures.0 in
    let is : c.in-Some-eq45.field-0 ≡ 45 = omega arith in
    let begins : drop i t ≡ 45 ∷ drop (i + 1) t = c.in-Some-eq45.ensures.1 ∙ ap (λ x. x ∷ drop (i + 1) t) is in
    part_octet t i 45 (Some (after_minus (drop i t))) inside begins refl (ap (λ l. Some (after_minus l)) begins)
