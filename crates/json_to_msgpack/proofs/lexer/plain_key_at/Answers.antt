use Rattle.std.proofs.Common.{◌+◌, drop}
use Rattle.json_to_msgpack.specs.body.Lexing.{IsAfterKey}
use Rattle.json_to_msgpack.proofs.Punctuated.{string_key}
use Rattle.json_to_msgpack.proofs.lexer.plain_key_at.Goals as goal

pub returns : goal.returns
returns c p may =
    let t = c.args.text.now in
    let at = c.args.at in
    let key = c.in_ok-key.key in
    let end = c.in_ok-key.end in
    let next = c.in_ok-next.next in
    let behind : IsAfterKey (drop end t) (drop next t) = rw (← c.as_bytes.ensures.value) c.in_ok-next.ensures in
    string_key t (drop at t) key.now behind.behind (drop next t) (at + 1) end c.in_ok-key.ensures.0 c.in_ok-key.ensures.1 behind.colon behind.rest p may
