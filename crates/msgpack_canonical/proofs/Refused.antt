-- What is refused is no value that is read.
use Rattle.std.proofs.Common.{◌≡◌, ℕ, List, Ok, refl, sym, ◌∙◌}
use Rattle.message_tree.specs.Data as tree
use Rattle.msgpack_codec.specs.declared.passing.Refusal.{Refusal}
use Rattle.msgpack_codec.specs.declared.passing.Refusal.TheVariants.{TooDeep, Malformed}
use Rattle.msgpack_codec.specs.Grammar.{IsDeep}
use Rattle.msgpack_codec.specs.Written.{IsNoValue}
use Rattle.msgpack_codec.specs.body.Decoder.{value_at}
use Rattle.msgpack_codec.proofs.ReadIsSpelled.{value_found}
use Rattle.msgpack_codec.proofs.TooDeep.{deep_again}

pub refused-unread : (room : ℕ) (octets : List ℕ) (e : Refusal) → (e ≡ TooDeep → IsDeep room octets) → (e ≡ Malformed → IsNoValue room octets) → (d : tree.Data) (rest : List ℕ) → value_at room octets ≡ Ok (d, rest) → ⊥
refused-unread room octets TooDeep deep none d rest read = let same = sym (deep_again room octets (deep refl)) ∙ read in cc
refused-unread room octets Malformed deep none d rest read =
    let s = value_found room octets d rest read in
    (none refl).unspelled s.0 rest d s.1 s.2
