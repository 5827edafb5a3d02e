use Rattle.msgpack_codec.proofs.OneWriting.{one_writing as law}
use Rattle.msgpack_codec.proofs.laws.one_writing.Goals as goal

pub returns : goal.returns
returns c = law
