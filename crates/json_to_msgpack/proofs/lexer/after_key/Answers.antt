use Rattle.std.proofs.Common.{◌≡◌, ◌+◌, ◌∷◌, drop, sym, ap, ◌∙◌, arith}
use Rattle.json.specs.Lex.{between, lex}
use Rattle.json_to_msgpack.proofs.lexer.after_key.Goals as goal

pub returns-in-Some-eq58 : goal.returns-in-Some-eq58
returns-in-Some-eq58 c =
    let t = c.args.octets.now in
    let colon = c.spaces_end-colon.result in
    let is : c.in-Some-eq58.field-0 ≡ 58 = omega arith in
    let mark = c.in-Some-eq58.ensures.1 ∙ ap (λ x. x ∷ drop (colon + 1) t) is in
    record { behind = drop (colon + 1) t; colon = sym c.spaces_end-colon.ensures.same ∙ ap (lex between) mark; rest = c.spaces_end.ensures.same }
