-- Values with nothing inside: what is written spells them, and the tokens are read as them.
use Rattle.std.proofs.Common.{◌≡◌, ℕ, zero, suc, List, [], ◌∷◌, ◌++◌, Some, option_map, refl, ap, ◌∙◌}
use Rattle.json.specs.Token.{Token}
use Rattle.json.specs.Json.{value}
use Rattle.json.proofs.Grammar.{value_is}
use Rattle.serde_json.specs.Data as json
use Rattle.serde_json.specs.Read.{number_of, of_json, converted}
use Rattle.message_tree.specs.Data as tree
use Rattle.msgpack_codec.specs.Format.{form_of}
use Rattle.msgpack_codec.specs.Grammar.{Spells}
use Rattle.msgpack_codec.specs.Short.{short}
use Rattle.json_to_msgpack.specs.body.Values.{IsLeafAdded, IsNumberAdded, IsTokenAdded, leaf_of}

-- as `short` writes it
pub short_added : (leaf d : tree.Data) (before after : List ℕ) → leaf ≡ d → ((room : ℕ) → Spells room (short d) d) → after ≡ before ++ short leaf → IsLeafAdded d before after
short_added leaf d before after same spelled e =
    record { octets = short d; behind = e ∙ ap (λ l. before ++ short l) same; spelled = spelled }

pub float_spelled : (room : ℕ) → Spells room (202 ∷ 0 ∷ 0 ∷ 0 ∷ 0 ∷ []) tree.uncarried
unfolding Spells form_of
float_spelled zero = (refl, refl)
float_spelled (suc room) = (refl, refl)

-- a number token, and what it is
pub number_added : (s before after : List ℕ) → IsNumberAdded (number_of s) before after → IsTokenAdded (Token.number s) before after
number_added s before after h =
    record { leaf = json.number h.number; read = ap (option_map json.number) h.read; added = h.added }

-- a token with nothing inside is a whole value, at any depth
pub leaf_read : (depth : ℕ) (t : Token) (r : List Token) (d : json.Data) → leaf_of t ≡ Some d → converted of_json (value depth (t ∷ r)) ≡ Some (d, r)
leaf_read depth Token.begin_object r d e = absurd cc
leaf_read depth Token.end_object r d e = absurd cc
leaf_read depth Token.begin_array r d e = absurd cc
leaf_read depth Token.end_array r d e = absurd cc
leaf_read depth (Token.key s) r d e = absurd cc
leaf_read depth (Token.string s) r d e = ap (converted of_json) (value_is depth (Token.string s ∷ r)) ∙ ap (option_map (λ b. (b, r))) e
leaf_read depth (Token.number s) r d e = ap (converted of_json) (value_is depth (Token.number s ∷ r)) ∙ ap (option_map (λ b. (b, r))) e
leaf_read depth (Token.boolean b) r d e = ap (converted of_json) (value_is depth (Token.boolean b ∷ r)) ∙ ap (option_map (λ b. (b, r))) e
leaf_read depth Token.null r d e = ap (converted of_json) (value_is depth (Token.null ∷ r)) ∙ ap (option_map (λ b. (b, r))) e
leaf_read depth Token.bad r d e = absurd cc
