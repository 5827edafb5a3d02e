-- What the bodies make of octets.
use Rattle.std.specs.Prelude.{◌≡◌, ℕ, List, Bool, true, false, Ok, if◌then◌else◌}
use Rattle.message_tree.specs.Data as tree
use Rattle.msgpack_codec.specs.Values.{is_text}
use Rattle.msgpack_codec.specs.body.Decoder.{Found}
use Rattle.msgpack_codec.specs.body.Tokens.{data_of, IsLeafToken}
use Rattle.msgpack_codec.specs.declared.tokens.Token.{Token}
use Rattle.msgpack_codec.specs.declared.tokens.Token.TheVariants.{List as ListOf, Dict as DictOf}
use Rattle.msgpack_cursor.specs.Seen.{is_leaf}
use Rattle.msgpack_cursor.specs.declared.seen.Beginning.{Beginning}
use Rattle.msgpack_cursor.specs.declared.seen.Beginning.TheVariants as begins
use Rattle.msgpack_cursor.specs.Standing.{dict_in, entries_of}

-- a text was read, and a value behind it
abbrev pub IsEntry : (List ℕ → Found tree.Data) → List ℕ → List ℕ → tree.Data → List ℕ → Type 0
IsEntry value octets key d rest = (middle : List ℕ) × (value octets ≡ Ok (tree.text key, middle)) × (value middle ≡ Ok (d, rest))

-- whatever key and value are read, the key is no text
abbrev pub IsNoEntry : (List ℕ → Found tree.Data) → List ℕ → Type 0
IsNoEntry value octets = (k v : tree.Data) (middle rest : List ℕ) → value octets ≡ Ok (k, middle) → value middle ≡ Ok (v, rest) → is_text k ≡ false

-- so many keys are read, each with its value behind it
abbrev pub IsReadable : ℕ → ℕ → List ℕ → Type 0
IsReadable room n octets = (d : tree.Data) × (rest : List ℕ) × (dict_in room n octets ≡ Ok (d, rest))

-- it is a dictionary, or it is uncarried
abbrev pub IsMap : Bool → tree.Data → Type 0
IsMap are_texts d = d ≡ (if are_texts then tree.dict (entries_of d) else tree.uncarried)

-- what a token begins
abbrev pub IsBegun : Beginning → Token → Type 0
IsBegun begins.Null t = IsLeafToken t × (data_of t ≡ tree.null)
IsBegun begins.List t = (n : ℕ) × (t ≡ ListOf n)
IsBegun begins.Map t = (n : ℕ) × (t ≡ DictOf n)
IsBegun begins.Uncarried t = IsLeafToken t × (data_of t ≡ tree.uncarried)
IsBegun begins.Leaf t = IsLeafToken t × (is_leaf (data_of t) ≡ true)
