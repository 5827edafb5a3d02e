use Rattle.std.proofs.Common.{◌-◌, take, drop, ap}
use Rattle.json.specs.Word.{after_number}
use Rattle.json_to_msgpack.specs.body.Lexing.{IsPart}
use Rattle.json_to_msgpack.proofs.WordParts.{number_word}
use Rattle.json_to_msgpack.proofs.literals.number_at.Goals as goal

pub returns : goal.returns
returns c =
    let t = c.args.text.now in
    let i = c.args.at in
    let e = c.in_ok-end.end in
    let same = c.as_bytes-octets.ensures.value in
    let part : IsPart t i (after_number (drop i t)) e = rw (← same) c.in_ok-end.ensures in
    number_word t i e (take (e - i) (drop i c.as_bytes-octets.result.now)) part c.requires.2 c.requires.1 (ap (λ l. take (e - i) (drop i l)) same)
