use Rattle.std.proofs.Common.{◌++◌, length}
use Rattle.std.proofs.lemmas.Bool.{ltb-true}
use Rattle.message_tree.specs.Data.{text}
use Rattle.msgpack_codec.specs.Short.{text_head}
use Rattle.msgpack_codec.proofs.ShortIsSpelled.{text_spelled}
use Rattle.msgpack_codec.proofs.SpelledIsRead.{value_again}
use Rattle.msgpack_canonical.proofs.Parts.{parted-text}
use Rattle.msgpack_canonical.proofs.leaves.put_text.Goals as goal

pub returns-in-Ok-clause-read : goal.returns-in-Ok-clause-read
returns-in-Ok-clause-read c =
    let s = c.args.of.now in
    let front = text_head (length s) ++ s in
    λ _ rest. parted-text (front ++ rest) s rest (value_again 0 front (text s) rest (text_spelled 0 s c.utf8.of (ltb-true (length s) 4294967296 c.in-Ok.ensures.fits)))
