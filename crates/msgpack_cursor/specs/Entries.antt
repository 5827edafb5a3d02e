-- The entries of a dictionary as they stand in octets: a key that stands twice is there twice.
use Rattle.std.specs.Prelude.{◌≡◌, ℕ, zero, suc, List, [], ◌∷◌, Ok}
use Rattle.std.specs.Coded.{Coded, coded×, coded_list, coded_ℕ}
use Rattle.message_tree.specs.Data as tree
use Rattle.message_tree.specs.Code.{data_code}
use Rattle.msgpack_codec.specs.body.Decoder.{value_at}
use Rattle.msgpack_cursor.specs.Standing.{value_in, rest_in}

-- a key and its value
abbrev pub Pair : Type 0
Pair = List ℕ × tree.Data

abbrev pub pairs_code : Coded (List Pair)
pairs_code = coded_list (coded× (coded_list coded_ℕ) data_code)

-- the entries, with these put into them, one after another
abbrev pub put_all : List Pair → tree.Entries → tree.Entries
put_all [] es = es
put_all (pair ∷ pairs) es = put_all pairs (tree.put pair.0 pair.1 es)

-- the text that a key is
abbrev pub key_of : tree.Data → List ℕ
key_of (tree.text s) = s
key_of tree.null = []
key_of (tree.flag b) = []
key_of (tree.whole z) = []
key_of (tree.bytes b) = []
key_of (tree.list ds) = []
key_of (tree.dict es) = []
key_of tree.uncarried = []

-- so many keys from the front on, each with the value behind it
unfoldable pub pairs_in : ℕ → ℕ → List ℕ → List Pair
pairs_in room zero octets = []
pairs_in room (suc n) octets = (key_of (value_in room octets), value_in room (rest_in room octets)) ∷ pairs_in room n (rest_in room (rest_in room octets))

-- a text stands there, and a value behind it
abbrev pub IsPair : ℕ → List ℕ → Type 0
IsPair room octets = (value_at room octets ≡ Ok (tree.text (key_of (value_in room octets)), rest_in room octets))
    × (value_at room (rest_in room octets) ≡ Ok (value_in room (rest_in room octets), rest_in room (rest_in room octets)))

-- so many texts stand there, each with a value behind it
unfoldable pub ArePairs : ℕ → ℕ → List ℕ → Type 0
ArePairs room zero octets = Unit {0}
ArePairs room (suc n) octets = IsPair room octets × ArePairs room n (rest_in room (rest_in room octets))
