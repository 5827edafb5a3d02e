use Rattle.std.proofs.Common.{◌≡◌, ◌+◌, ◌<◌, ◌∷◌, length, drop, arith}
use Rattle.json_to_msgpack.proofs.Strings.{utf8_past}
use Rattle.json_to_msgpack.proofs.lexer.string_at.Goals as goal

pub unescape-requires : goal.unescape-requires
unescape-requires c =
    let t = c.args.text.now in
    let at = c.args.at in
    let same = c.as_bytes.ensures.value in
    let inside : at < length t = rw (← same) c.in-Some-eq34.ensures.0 in
    let first : drop at t ≡ c.in-Some-eq34.field-0 ∷ drop (at + 1) t = rw (← same) c.in-Some-eq34.ensures.1 in
    (omega arith, utf8_past t at c.in-Some-eq34.field-0 c.utf8.text inside first (omega arith))
