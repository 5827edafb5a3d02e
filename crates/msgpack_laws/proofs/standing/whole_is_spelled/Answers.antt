use Rattle.msgpack_laws.proofs.Values.{whole-stands as law}
use Rattle.msgpack_laws.proofs.standing.whole_is_spelled.Goals as goal

pub returns : goal.returns
returns c = law
