use Rattle.std.proofs.Common.{◌≡◌, ◌+◌, ◌∷◌, inl, inr, drop, refl, ap, ◌∙◌, arith}
use Rattle.std.proofs.lemmas.List.{drop_all}
use Rattle.json.specs.Word.{ends_word}
use Rattle.json_to_msgpack.proofs.Punctuated.{ended_by, comma_after, bracket_after, end_after}
use Rattle.json_to_msgpack.proofs.lexer.after_value.Goals as goal

pub returns-in-Some-eq44 : goal.returns-in-Some-eq44
returns-in-Some-eq44 c =
    let t = c.args.octets.now in
    let from = c.args.from in
    let at = c.spaces_end-at.result in
    let spaces = c.spaces_end-at.ensures in
    let is : c.in-Some-eq44.field-0 ≡ 44 = omega arith in
    let begins = c.in-Some-eq44.ensures.1 ∙ ap (λ x. x ∷ drop (at + 1) t) is in
    comma_after t (drop (at + 1) t) from at c.spaces_end.result spaces.same begins c.spaces_end.ensures.same (ended_by t from at spaces.bounds.0 spaces.ends (ap ends_word begins))

pub returns-in-Some-eq93 : goal.returns-in-Some-eq93
returns-in-Some-eq93 c =
    let t = c.args.octets.now in
    let from = c.args.from in
    let at = c.spaces_end-at.result in
    let spaces = c.spaces_end-at.ensures in
    let is : c.in-Some-eq93.field-0 ≡ 93 = omega arith in
    let begins = c.in-Some-eq93.ensures.1 ∙ ap (λ x. x ∷ drop (at + 1) t) is in
    bracket_after t (drop (at + 1) t) from at 93 spaces.same begins (inl refl) (ended_by t from at spaces.bounds.0 spaces.ends (ap ends_word begins))

pub returns-in-Some-eq125 : goal.returns-in-Some-eq125
returns-in-Some-eq125 c =
    let t = c.args.octets.now in
    let from = c.args.from in
    let at = c.spaces_end-at.result in
    let spaces = c.spaces_end-at.ensures in
    let is : c.in-Some-eq125.field-0 ≡ 125 = omega arith in
    let begins = c.in-Some-eq125.ensures.1 ∙ ap (λ x. x ∷ drop (at + 1) t) is in
    bracket_after t (drop (at + 1) t) from at 125 spaces.same begins (inr refl) (ended_by t from at spaces.bounds.0 spaces.ends (ap ends_word begins))

pub returns-in-None : goal.returns-in-None
returns-in-None c =
    let t = c.args.octets.now in
    let from = c.args.from in
    let at = c.spaces_end-at.result in
    let spaces = c.spaces_end-at.ensures in
    let over = drop_all at t c.in-None.ensures in
    end_after t from at spaces.same over (ended_by t from at spaces.bounds.0 spaces.ends (ap ends_word over))
