use Rattle.json_to_msgpack.proofs.Found.{some_weaker}
use Rattle.json_to_msgpack.proofs.WordParts.{number_part}
use Rattle.json_to_msgpack.proofs.literals.number_end.Goals as goal

pub returns : goal.returns
returns c =
    some_weaker c.exponent_end.result _ _
    (λ e h. number_part c.args.octets.now c.args.from c.minus_end.result c.in_ok-point.point c.in_ok-power.power e c.minus_end.ensures c.in_ok-point.ensures c.in_ok-power.ensures h) c.exponent_end.ensures
