use Rattle.std.proofs.Common.{◌≡◌, ◌+◌, ◌∷◌, drop, ap, ◌∙◌, arith}
use Rattle.json_to_msgpack.proofs.Punctuated.{opens}
use Rattle.json_to_msgpack.proofs.lexer.open_at.Goals as goal

pub returns : goal.returns
returns c p may =
    let t = c.args.octets.now in
    let at = c.args.at in
    let is : c.in_ok-octet_at.field-0 ≡ c.args.bracket = omega arith in
    let begins = c.in_ok-octet_at.ensures.1 ∙ ap (λ x. x ∷ drop (at + 1) t) is in
    opens (drop at t) (drop (at + 1) t) (drop c.spaces_end.result t) c.args.bracket c.requires begins c.spaces_end.ensures.same p may
