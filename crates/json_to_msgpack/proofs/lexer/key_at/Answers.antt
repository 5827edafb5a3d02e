use Rattle.std.proofs.Common.{◌+◌, drop}
use Rattle.std.specs.String.{string_bytes}
use Rattle.json_to_msgpack.specs.body.Lexing.{IsAfterKey}
use Rattle.json_to_msgpack.proofs.Punctuated.{string_key}
use Rattle.json_to_msgpack.proofs.lexer.key_at.Goals as goal

pub returns-in-Some : goal.returns-in-Some
returns-in-Some c p may =
    let t = c.args.text.now in
    let at = c.args.at in
    let end = c.in-Ok.end in
    let next = c.in-Some.next in
    let behind : IsAfterKey (drop end t) (drop next t) = rw (← c.as_bytes.ensures.value) c.in-Some.ensures in
    string_key t (drop at t) (string_bytes c.in-Ok.key) behind.behind (drop next t) (at + 1) end c.in-Ok.ensures.0 c.in-Ok.ensures.1 behind.colon behind.rest p may
