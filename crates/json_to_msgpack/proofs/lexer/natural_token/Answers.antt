use Rattle.std.proofs.Common.{◌-◌, take, drop}
use Rattle.json.specs.Token.{number}
use Rattle.json_to_msgpack.proofs.Punctuated.{word_value}
use Rattle.json_to_msgpack.proofs.lexer.natural_token.Goals as goal

pub returns : goal.returns
returns c =
    let t = c.args.octets.now in
    let at = c.args.at in
    let end = c.in_ok-natural.end in
    let place = c.in_ok-place.place in
    let next = c.in_ok-place.next in
    let digits = take (end - at) (drop at t) in
    let found = c.in_ok-natural.ensures in
    record { digits = digits; is = found.is; begins = λ p may. word_value t (number digits) at end next place found.word c.in_ok-place.ensures p may }
