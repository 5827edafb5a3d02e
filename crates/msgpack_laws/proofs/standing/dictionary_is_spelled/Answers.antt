use Rattle.msgpack_laws.proofs.Dictionaries.{dictionary-stands as law}
use Rattle.msgpack_laws.proofs.standing.dictionary_is_spelled.Goals as goal

pub returns : goal.returns
returns c = law
