use Rattle.msgpack_laws.proofs.Reading.{one-front as law}
use Rattle.msgpack_laws.proofs.decoder.one_front.Goals as goal

pub returns : goal.returns
returns c = law
