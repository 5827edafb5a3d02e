-- Entries that stand in their least spelling, as they are seen where they stand.
use Rattle.std.specs.Prelude.{◌≡◌, ◌^◌, ℕ, List, [], ◌∷◌, ◌++◌, length, map, true, nat_lt, Ok}
use Rattle.std.specs.Ordering.{nat_cmp}
use Rattle.std.specs.Cmp.Lexicographic.{slice_cmp}
use Rattle.std.specs.declared.cmp.Ordering.{Ordering}
use Rattle.message_tree.specs.Data as tree
use Rattle.msgpack_codec.specs.Short.{short}
use Rattle.msgpack_codec.specs.body.Decoder.{value_at, dict_at}
use Rattle.msgpack_canonical.specs.declared.canonical_entries.CanonicalEntry.{CanonicalEntry}
use Rattle.msgpack_canonical.specs.body.Fitting.{fits, entries_fit}
use Rattle.msgpack_canonical.specs.body.Entries.{Pair, entry_octets}

-- the order of the keys
abbrev pub key_cmp : CanonicalEntry → CanonicalEntry → Ordering
key_cmp x y = slice_cmp nat_cmp x.key.now y.key.now

-- the key, and the octets of the entry
abbrev pub seen : CanonicalEntry → Pair
seen x = (x.key.now, x.octets.now)

-- the octets of the entries, one behind the other
abbrev pub all_octets : List CanonicalEntry → List ℕ
all_octets [] = []
all_octets (x ∷ xs) = x.octets.now ++ all_octets xs

-- each key, with the least octets of its entry
abbrev pub spelled_entries : tree.Entries → List Pair
spelled_entries tree.no_entries = []
spelled_entries (tree.entry k d es) = (k, entry_octets k (short d)) ∷ spelled_entries es

-- the entries of a dictionary are these, and they fit
pub record AreSeen (entries : List CanonicalEntry) (es : tree.Entries) : Type 0 where
  pub same : map seen entries ≡ spelled_entries es
  pub fit : entries_fit es ≡ true

-- the octets begin with an entry of this key, which is spelled so
pub record IsCanonicalEntry (octets key entry rest : List ℕ) : Type 0 where
  pub middle : List ℕ
  pub meant : tree.Data
  pub key_read : (room : ℕ) → value_at room octets ≡ Ok (tree.text key, middle)
  pub value_read : (room : ℕ) → value_at room middle ≡ Ok (meant, rest)
  pub least : entry ≡ entry_octets key (short meant)
  pub short_key : nat_lt (length key) (2 ^ 32) ≡ true
  pub fit : fits meant ≡ true

-- a dictionary of so many keys was read, and its entries are these
pub record AreCanonicalRead (count : ℕ) (octets : List ℕ) (entries : List CanonicalEntry) (rest : List ℕ) : Type 0 where
  pub found : tree.Entries
  pub read : (room : ℕ) → dict_at (value_at room) count tree.no_entries true octets ≡ Ok (tree.dict found, rest)
  pub are : AreSeen entries found
