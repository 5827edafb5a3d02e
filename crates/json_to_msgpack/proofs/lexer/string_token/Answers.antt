use Rattle.std.proofs.Common.{◌+◌, drop}
use Rattle.std.specs.String.{string_bytes}
use Rattle.json_to_msgpack.specs.body.Lexing.{IsAfterValue}
use Rattle.json_to_msgpack.proofs.Punctuated.{string_value}
use Rattle.json_to_msgpack.proofs.lexer.string_token.Goals as goal

pub returns-in-Some : goal.returns-in-Some
returns-in-Some c p may =
    let t = c.args.text.now in
    let at = c.args.at in
    let end = c.in-Ok.end in
    let behind : IsAfterValue t end c.in-Some.place c.in-Some.next = rw (← c.as_bytes.ensures.value) c.in-Some.ensures in
    string_value t (drop at t) (string_bytes c.in-Ok.string) (at + 1) end c.in-Some.next c.in-Some.place c.in-Ok.ensures.0 c.in-Ok.ensures.1 behind p may
