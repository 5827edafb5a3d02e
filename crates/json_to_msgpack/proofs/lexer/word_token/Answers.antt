use Rattle.json_to_msgpack.specs.body.Lexing.{token_of, IsAfterValue}
use Rattle.json_to_msgpack.proofs.Punctuated.{word_value}
use Rattle.json_to_msgpack.proofs.lexer.word_token.Goals as goal

pub returns : goal.returns
returns c p may =
    let t = c.args.text.now in
    let end = c.in-Some.end in
    let place = c.in-Some-after_value.place in
    let next = c.in-Some-after_value.next in
    let behind : IsAfterValue t end place next = rw (← c.as_bytes.ensures.value) c.in-Some-after_value.ensures in
    word_value t (token_of c.in-Some.token) c.args.at end next place c.in-Some.ensures behind p may
