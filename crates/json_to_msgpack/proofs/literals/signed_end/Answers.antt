use Rattle.json_to_msgpack.proofs.Found.{some_weaker}
use Rattle.json_to_msgpack.proofs.WordParts.{signed_part}
use Rattle.json_to_msgpack.proofs.literals.signed_end.Goals as goal

pub returns : goal.returns
returns c = some_weaker c.some_digits.result _ _ (λ j h. signed_part c.args.octets.now c.args.from c.sign_end.result j c.sign_end.ensures h) c.some_digits.ensures
