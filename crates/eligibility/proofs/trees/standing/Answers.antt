use Rattle.msgpack_cursor.proofs.Spellings.{same_value}
use Rattle.eligibility.proofs.Standing.{not-refused}
use Rattle.eligibility.proofs.trees.standing.Goals as goal

pub unreachable-requires : goal.unreachable-requires
unreachable-requires c = not-refused c.in-Err.field-0 c.args.octets.now c.requires.0 c.requires.1 c.in-Err.ensures.too_deep c.in-Err.ensures.malformed

pub returns : goal.returns
returns c = λ d s. same_value 100 c.args.octets.now _ d c.in-Ok.ensures.ok s
