use Rattle.json_to_msgpack.proofs.WordParts.{digits_part}
use Rattle.json_to_msgpack.proofs.literals.some_digits.Goals as goal

pub returns-else-end-from : goal.returns-else-end-from
returns-else-end-from c = digits_part c.args.octets.now c.args.from c.digits_end-end.result c.requires c.digits_end-end.ensures.value c.if-end-from.false
