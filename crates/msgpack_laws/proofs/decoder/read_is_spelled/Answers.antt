use Rattle.msgpack_laws.proofs.Reading.{read-stands as law}
use Rattle.msgpack_laws.proofs.decoder.read_is_spelled.Goals as goal

pub returns : goal.returns
returns c = law
