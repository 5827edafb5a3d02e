use Rattle.msgpack_laws.proofs.Dictionaries.{dictionary-pairs, made-of-pairs}
use Rattle.msgpack_laws.proofs.standing.dictionary_is_its_pairs.Goals as goal

pub returns-clause-there : goal.returns-clause-there
returns-clause-there c = dictionary-pairs

pub returns-clause-entries : goal.returns-clause-entries
returns-clause-entries c = made-of-pairs
