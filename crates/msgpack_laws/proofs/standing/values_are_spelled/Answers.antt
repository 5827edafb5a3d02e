use Rattle.msgpack_laws.proofs.Values.{values-stand as law}
use Rattle.msgpack_laws.proofs.standing.values_are_spelled.Goals as goal

pub returns : goal.returns
returns c = law
