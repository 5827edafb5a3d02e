use Rattle.msgpack_laws.proofs.Dictionaries.{map-stands as law}
use Rattle.msgpack_laws.proofs.standing.map_is_spelled.Goals as goal

pub returns : goal.returns
returns c = law
