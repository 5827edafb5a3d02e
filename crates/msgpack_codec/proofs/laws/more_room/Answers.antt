use Rattle.msgpack_codec.proofs.MoreRoom.{more_room as law}
use Rattle.msgpack_codec.proofs.laws.more_room.Goals as goal

pub returns : goal.returns
returns c = law
