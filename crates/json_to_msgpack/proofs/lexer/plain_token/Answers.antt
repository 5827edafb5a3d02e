use Rattle.std.proofs.Common.{◌+◌, drop}
use Rattle.json_to_msgpack.specs.body.Lexing.{IsAfterValue}
use Rattle.json_to_msgpack.proofs.Punctuated.{string_value}
use Rattle.json_to_msgpack.proofs.lexer.plain_token.Goals as goal

pub returns : goal.returns
returns c p may =
    let t = c.args.text.now in
    let at = c.args.at in
    let string = c.in_ok-string.string in
    let end = c.in_ok-string.end in
    let place = c.in_ok-place.place in
    let next = c.in_ok-place.next in
    let behind : IsAfterValue t end place next = rw (← c.as_bytes.ensures.value) c.in_ok-place.ensures in
    string_value t (drop at t) string.now (at + 1) end next place c.in_ok-string.ensures.0 c.in_ok-string.ensures.1 behind p may
