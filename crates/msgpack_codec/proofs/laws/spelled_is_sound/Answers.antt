use Rattle.msgpack_codec.proofs.Small.{spelled_is_sound as law}
use Rattle.msgpack_codec.proofs.laws.spelled_is_sound.Goals as goal

pub returns : goal.returns
returns c = law
