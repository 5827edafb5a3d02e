-- Values that stand in octets of MessagePack as they are written, and their JSON text.
use Rattle.std.specs.Prelude.{◌≡◌, ℕ, List, ◌++◌, true}
use Rattle.message_tree.specs.Data.{Data, is_carried}
use Rattle.json_codec.specs.Encoder.{json_text}
use Rattle.msgpack_codec.specs.Grammar.{Spells}
use Rattle.msgpack_codec.specs.Short.{short, has_short}

-- the octets begin with what `encode` writes for a value, and the rest follows it
pub record Stands (octets rest : List ℕ) (d : Data) : Type 0 where
  pub parts : octets ≡ short d ++ rest
  pub spelled : Spells 100 (short d) d
  pub carried : is_carried d ≡ true
  pub has_short : has_short d ≡ true

-- the value that stands there is passed over, and its JSON text is written behind what was
abbrev pub IsWritten : List ℕ → List ℕ → List ℕ → List ℕ → Type 0
IsWritten octets rest old new = (d : Data) (after : List ℕ) → Stands octets after d → (rest ≡ after) × (new ≡ old ++ json_text d)

-- no value stands there
abbrev pub NothingStands : List ℕ → Type 0
NothingStands octets = (d : Data) (after : List ℕ) → ¬ Stands octets after d
