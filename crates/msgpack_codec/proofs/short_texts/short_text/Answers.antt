use Rattle.std.proofs.lemmas.Str.{IsUtf8-from_ascii}
use Rattle.msgpack_codec.proofs.short_texts.short_text.Goals as goal

pub from_utf8_unchecked-requires : goal.from_utf8_unchecked-requires
from_utf8_unchecked-requires c = IsUtf8-from_ascii _ (c.is_ascii.ensures c.if-not-is_ascii.false)
