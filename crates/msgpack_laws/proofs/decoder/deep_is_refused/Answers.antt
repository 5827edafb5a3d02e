use Rattle.msgpack_laws.proofs.Reading.{deep-refused as law}
use Rattle.msgpack_laws.proofs.decoder.deep_is_refused.Goals as goal

pub returns : goal.returns
returns c = law
