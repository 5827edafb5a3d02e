-- A short text at the front is the value that is passed over there.
use Rattle.std.proofs.Common.{◌≡◌, ◌<◌, ℕ, List, ◌++◌, length, Ok, sym, ◌∙◌}
use Rattle.std.specs.Prelude.{IsUtf8}
use Rattle.message_tree.specs.Data.{Data, text}
use Rattle.msgpack_codec.specs.Short.{short}
use Rattle.msgpack_codec.specs.body.Passing.{written_at}
use Rattle.msgpack_codec.proofs.ReadIsSpelled.{found-is}
use Rattle.msgpack_codec.proofs.ShortTexts.{text-written}

pub text-is : (room : ℕ) (octets s rest : List ℕ) → octets ≡ short (text s) ++ rest → IsUtf8 s → length s < 32 → (d : Data) (after : List ℕ) → written_at room octets ≡ Ok (d, after) → (text s ≡ d) × (rest ≡ after)
text-is room octets s rest parts utf8 few d after read = found-is (text s) d rest after (sym (text-written octets s rest parts utf8 few room) ∙ read)
