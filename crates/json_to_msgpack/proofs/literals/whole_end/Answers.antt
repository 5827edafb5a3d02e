use Rattle.std.proofs.Common.{◌≡◌, ◌+◌, ◌∷◌, drop, refl, ap, ◌∙◌, arith}
use Rattle.json.specs.Word.{after_whole}
use Rattle.json_to_msgpack.proofs.WordParts.{part_octet}
use Rattle.json_to_msgpack.proofs.literals.whole_end.Goals as goal

pub returns-in-Some-eq48 : goal.returns-in-Some-eq48
returns-in-Some-eq48 c =
    let t = c.args.octets.now in
    let i = c.args.from in
    let inside = c.in-Some-eq48.ensures.0 in
    let is : c.in-Some-eq48.field-0 ≡ 48 = omega arith in
    let begins : drop i t ≡ 48 ∷ drop (i + 1) t = c.in-Some-eq48.ensures.1 ∙ ap (λ x. x ∷ drop (i + 1) t) is in
    part_octet t i 48 (after_whole (drop i t)) inside begins refl (ap after_whole begins)
