-- What stands at the front of octets: a value with nothing inside, or the head of a list or map.
use Rattle.std.specs.Prelude.{◌≡◌, ℕ, List, ◌∷◌, ◌++◌}
use Rattle.message_tree.specs.Data as tree
use Rattle.msgpack_codec.specs.Format.{form_of}
use Rattle.msgpack_codec.specs.Grammar.{IsSize, Spells}
use Rattle.msgpack_codec.specs.declared.format.Form.{Form}
use Rattle.msgpack_codec.specs.declared.format.Form.TheVariants as forms
use Rattle.msgpack_codec.specs.declared.format.Size.{Size}
use Rattle.msgpack_codec.specs.declared.tokens.Token.{Token}
use Rattle.msgpack_codec.specs.declared.tokens.Token.TheVariants.{Null, Flag, Whole, Text, Bytes, List as ListOf, Dict as DictOf, Uncarried}

-- a front of the octets spells a value that nests nothing, and the rest follows it
abbrev pub BeginsWith : tree.Data → List ℕ → List ℕ → Type 0
BeginsWith d octets rest = (front : List ℕ) × (octets ≡ front ++ rest) × Spells 0 front d

-- a first octet of this kind with a length of so many members, and the rest follows them
abbrev pub Heads : (Size → Form) → ℕ → List ℕ → List ℕ → Type 0
Heads kind n octets rest = (c : ℕ) × (size : Size) × (head : List ℕ) × (octets ≡ c ∷ (head ++ rest)) × (form_of c ≡ kind size) × IsSize size head n

abbrev pub IsToken : Token → List ℕ → List ℕ → Type 0
IsToken Null octets rest = BeginsWith tree.null octets rest
IsToken (Flag b) octets rest = BeginsWith (tree.flag b) octets rest
IsToken (Whole z) octets rest = BeginsWith (tree.whole z) octets rest
IsToken (Text s) octets rest = BeginsWith (tree.text s.now) octets rest
IsToken (Bytes s) octets rest = BeginsWith (tree.bytes s.now) octets rest
IsToken (ListOf n) octets rest = Heads forms.List n octets rest
IsToken (DictOf n) octets rest = Heads forms.Dict n octets rest
IsToken Uncarried octets rest = BeginsWith tree.uncarried octets rest

-- the octets begin with no value that nests nothing, nor with the head of a list or map
pub record IsNoToken (octets : List ℕ) : Type 0 where
  pub no_leaf : (d : tree.Data) (rest : List ℕ) → BeginsWith d octets rest → ⊥
  pub no_list : (n : ℕ) (rest : List ℕ) → Heads forms.List n octets rest → ⊥
  pub no_dict : (n : ℕ) (rest : List ℕ) → Heads forms.Dict n octets rest → ⊥
