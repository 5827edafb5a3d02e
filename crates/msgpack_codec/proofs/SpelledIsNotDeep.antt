-- What is spelled is not too deep.
use Rattle.std.proofs.Common.{ℕ, List, [], sym, ap, ◌∙◌}
use Rattle.std.proofs.lemmas.List.{append-nil}
use Rattle.message_tree.specs.Data.{Data}
use Rattle.msgpack_codec.specs.Grammar.{Spells, IsDeep}
use Rattle.msgpack_codec.specs.body.Decoder.{value_at}
use Rattle.msgpack_codec.proofs.SpelledIsRead.{value_again}
use Rattle.msgpack_codec.proofs.TooDeep.{deep_again}

pub spelled-not-deep : (room : ℕ) (octets : List ℕ) (d : Data) → Spells room octets d → IsDeep room octets → ⊥
spelled-not-deep room octets d spelled deep =
    let read = ap (value_at room) (sym (append-nil octets)) ∙ value_again room octets d [] spelled in
    let refused = deep_again room octets deep in
    cc (read, refused)
