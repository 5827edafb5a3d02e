-- The values that stand in octets one behind the other, by any spelling: what `decode` reads of them.
use Rattle.std.specs.Prelude.{◌≡◌, ℕ, zero, suc, List, [], length, ◌==◌, Bool, true, false, ◌&&◌, Ok, Err}
use Rattle.message_tree.specs.Data as tree
use Rattle.msgpack_codec.specs.Written.{IsShortest}
use Rattle.msgpack_codec.specs.body.Decoder.{Found, value_at, dict_at}

-- what was read; null where nothing was
abbrev pub value_of : Found tree.Data → tree.Data
value_of (Ok x) = x.0
value_of (Err e) = tree.null

-- the octets after it
abbrev pub rest_of : Found tree.Data → List ℕ
rest_of (Ok x) = x.1
rest_of (Err e) = []

abbrev pub entries_of : tree.Data → tree.Entries
entries_of tree.null = tree.no_entries
entries_of (tree.flag b) = tree.no_entries
entries_of (tree.whole z) = tree.no_entries
entries_of (tree.text s) = tree.no_entries
entries_of (tree.bytes b) = tree.no_entries
entries_of (tree.list ds) = tree.no_entries
entries_of (tree.dict es) = es
entries_of tree.uncarried = tree.no_entries

-- the value at the front, which nests no more than so many levels
unfoldable pub value_in : ℕ → List ℕ → tree.Data
value_in room octets = value_of (value_at room octets)

-- the octets after the value at the front
unfoldable pub rest_in : ℕ → List ℕ → List ℕ
rest_in room octets = rest_of (value_at room octets)

-- so many values from the front on
unfoldable pub items_in : ℕ → ℕ → List ℕ → tree.Items
items_in room zero octets = tree.no_items
items_in room (suc n) octets = tree.item (value_in room octets) (items_in room n (rest_in room octets))

-- whether a value was read
abbrev pub is_found : Found tree.Data → Bool
is_found (Ok x) = true
is_found (Err e) = false

-- whether the octets are so many values, and nothing more
unfoldable pub is_whole : ℕ → ℕ → List ℕ → Bool
is_whole room zero octets = length octets == 0
is_whole room (suc n) octets = is_found (value_at room octets) && is_whole room n (rest_in room octets)

-- so many keys from the front on, each with its value behind it
abbrev pub dict_in : ℕ → ℕ → List ℕ → Found tree.Data
dict_in room n octets = dict_at (value_at room) n tree.no_entries true octets

-- the dictionary that they make: the last value of a key stays
unfoldable pub entries_in : ℕ → ℕ → List ℕ → tree.Entries
entries_in room n octets = entries_of (value_of (dict_in room n octets))

-- the octets are one value
abbrev pub IsValue : ℕ → List ℕ → Type 0
IsValue room octets = value_at room octets ≡ Ok (value_in room octets, [])

-- where they are told to be the shortest, they are what `encode` writes for the value
abbrev pub IsLeast : Bool → ℕ → List ℕ → Type 0
IsLeast is_shortest room octets = is_shortest ≡ true → IsShortest octets (value_in room octets)

-- so many values stand there
unfoldable pub AreThere : ℕ → ℕ → List ℕ → Type 0
AreThere room zero octets = Unit {0}
AreThere room (suc n) octets = (value_at room octets ≡ Ok (value_in room octets, rest_in room octets)) × AreThere room n (rest_in room octets)

-- so many keys stand there, each a text with its value behind it
abbrev pub IsDictionary : ℕ → ℕ → List ℕ → Type 0
IsDictionary room n octets = dict_in room n octets ≡ Ok (tree.dict (entries_in room n octets), rest_of (dict_in room n octets))
