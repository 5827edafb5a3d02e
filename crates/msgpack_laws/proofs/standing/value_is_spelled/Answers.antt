use Rattle.msgpack_laws.proofs.Reading.{value-spells as law}
use Rattle.msgpack_laws.proofs.standing.value_is_spelled.Goals as goal

pub returns : goal.returns
returns c = law
