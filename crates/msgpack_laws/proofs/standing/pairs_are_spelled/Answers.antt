use Rattle.msgpack_laws.proofs.Dictionaries.{pairs-stand as law}
use Rattle.msgpack_laws.proofs.standing.pairs_are_spelled.Goals as goal

pub returns : goal.returns
returns c = law
