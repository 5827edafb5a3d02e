use Rattle.msgpack_laws.proofs.Reading.{else-none as law}
use Rattle.msgpack_laws.proofs.decoder.else_is_no_value.Goals as goal

pub returns : goal.returns
returns c = law
