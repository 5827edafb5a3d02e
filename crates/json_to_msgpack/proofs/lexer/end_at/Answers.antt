use Rattle.std.proofs.Common.{◌≡◌, ◌+◌, ◌∷◌, drop, true, sym, ap, ◌∙◌, arith}
use Rattle.json.specs.Lex.{may_close}
use Rattle.json_to_msgpack.specs.body.Lexing.{place_of}
use Rattle.json_to_msgpack.proofs.Found.{some_weaker}
use Rattle.json_to_msgpack.proofs.Punctuated.{closes}
use Rattle.json_to_msgpack.proofs.lexer.end_at.Goals as goal

pub returns : goal.returns
returns c =
    let t = c.args.octets.now in
    let at = c.args.at in
    let bracket = c.args.bracket in
    let is : c.in_ok-octet_at.field-0 ≡ bracket = omega arith in
    let may : may_close (place_of c.args.place) ≡ true = sym c.is_complete.ensures ∙ c.if-not-is_complete.false in
    let begins = c.in_ok-octet_at.ensures.1 ∙ ap (λ x. x ∷ drop (at + 1) t) is in
    some_weaker c.after_value.result _ _ (λ r h. closes c.args.place r.0 t at r.1 bracket may c.requires begins h) c.after_value.ensures
