-- The entries of a dictionary as they are written: each key in its shortest spelling, with the octets of its value behind it.
use Rattle.std.specs.Prelude.{◌≡◌, ◌-◌, ◌≤◌, ◌^◌, ◌&&◌, ℕ, suc, List, [], ◌∷◌, ◌++◌, length, take, drop, map, reverse, All, Bool, true, false, nat_lt, Ok, Err, if◌then◌else◌}
use Rattle.std.specs.Ordering.{nat_cmp}
use Rattle.std.specs.BTreeMap.{insert_entry}
use Rattle.std.specs.Cmp.Lexicographic.{slice_cmp}
use Rattle.std.specs.declared.cmp.Ordering.{Ordering}
use Rattle.message_tree.specs.Data as tree
use Rattle.msgpack_codec.specs.Grammar.{Spells}
use Rattle.msgpack_codec.specs.Short.{short, text_head}
use Rattle.msgpack_codec.specs.Values.{is_text}
use Rattle.msgpack_codec.specs.body.Decoder.{Found, value_at, dict_at}
use Rattle.msgpack_canonical.specs.declared.entries.EntryPlace.{EntryPlace}
use Rattle.msgpack_canonical.specs.body.Fitting.{fits, IsUnread}

-- a key, and octets
abbrev pub Pair : Type 0
Pair = List ℕ × List ℕ

-- the octets that are written for a value: none where it doesn't fit
abbrev pub kept : tree.Data → List ℕ
kept d = if fits d then short d else []

abbrev pub entry_octets : List ℕ → List ℕ → List ℕ
entry_octets k v = text_head (length k) ++ (k ++ v)

-- a text that was read, and the octets behind it
abbrev pub text_parts : tree.Data → List ℕ → Pair
text_parts tree.null rest = ([], [])
text_parts (tree.flag b) rest = ([], [])
text_parts (tree.whole z) rest = ([], [])
text_parts (tree.text s) rest = (s, rest)
text_parts (tree.bytes b) rest = ([], [])
text_parts (tree.list ds) rest = ([], [])
text_parts (tree.dict es) rest = ([], [])
text_parts tree.uncarried rest = ([], [])

abbrev pub parts_of : Found tree.Data → Pair
parts_of (Ok x) = text_parts x.0 x.1
parts_of (Err e) = ([], [])

-- the text at the front of octets, and the octets behind it
unfoldable pub parted : List ℕ → Pair
parted octets = parts_of (value_at 0 octets)

-- what stands at a place
abbrev pub cut : List ℕ → EntryPlace → List ℕ
cut written p = take (p.end - p.start) (drop p.start written)

abbrev pub entry_in : List ℕ → EntryPlace → Pair
entry_in written p = parted (cut written p)

-- the order of the keys
abbrev pub place_cmp : List ℕ → EntryPlace → EntryPlace → Ordering
place_cmp written p q = slice_cmp nat_cmp (entry_in written p).0 (entry_in written q).0

-- an entry stands at the place
pub record IsStanding (written : List ℕ) (p : EntryPlace) : Type 0 where
  pub ordered : p.start ≤ p.end
  pub within : p.end ≤ length written
  pub parts : cut written p ≡ entry_octets (entry_in written p).0 (entry_in written p).1
  pub short_key : nat_lt (length (entry_in written p).0) (2 ^ 32) ≡ true

-- the pairs of which each stands at its key, the last one first
abbrev pub inserted : List Pair → List Pair
inserted [] = []
inserted (x ∷ xs) = insert_entry (slice_cmp nat_cmp) (inserted xs) x.0 x.1

-- a dictionary's keys, each with the octets that are written for its value
abbrev pub pairs : tree.Entries → List Pair
pairs tree.no_entries = []
pairs (tree.entry k d es) = (k, kept d) ∷ pairs es

-- such entries stand at places, the last one first
pub record AreKept (written : List ℕ) (places : List EntryPlace) (entries : tree.Entries) : Type 0 where
  pub same : pairs entries ≡ inserted (map (entry_in written) places)
  pub stand : All (IsStanding written) places

-- these are the octets of an entry
pub record IsEntry (k v octets : List ℕ) : Type 0 where
  pub spelled : octets ≡ entry_octets k v
  pub parts : parted octets ≡ (k, v)
  pub short_key : nat_lt (length k) (2 ^ 32) ≡ true

-- a key and its value were read, and written where the key is a text
pub record IsEntryPut (value : List ℕ → Found tree.Data) (octets rest : List ℕ) (has_place : Bool) (old new : List ℕ) : Type 0 where
  pub key : tree.Data
  pub middle : List ℕ
  pub meant : tree.Data
  pub more : List ℕ
  pub key_read : value octets ≡ Ok (key, middle)
  pub value_read : value middle ≡ Ok (meant, rest)
  pub text : has_place ≡ is_text key
  pub added : new ≡ old ++ more
  pub entry : (s : List ℕ) → key ≡ tree.text s → IsEntry s (kept meant) more

-- the octets begin with the least spelling of a value with nothing inside
pub record BeginsCanonical (octets rest : List ℕ) : Type 0 where
  pub meant : tree.Data
  pub parts : octets ≡ short meant ++ rest
  pub spelled : Spells 0 (short meant) meant
  pub fit : fits meant ≡ true

-- no entry was read
abbrev pub IsNoEntry : (List ℕ → Found tree.Data) → List ℕ → Type 0
IsNoEntry value octets = (n : ℕ) (found : tree.Entries) (texts : Bool) → IsUnread (dict_at value (suc n) found texts octets)

-- a dictionary was read, or what isn't carried, and its entries stand at places
pub record AreRead (found : Found tree.Data) (are_texts : Bool) (written : List ℕ) (places : List EntryPlace) (rest : List ℕ) : Type 0 where
  pub entries : tree.Entries
  pub read : found ≡ Ok ((if are_texts then tree.dict entries else tree.uncarried), rest)
  pub kept_at : AreKept written (reverse places) entries

-- a place was taken behind the others
pub record IsPlaced (start end : ℕ) (old new : List EntryPlace) : Type 0 where
  pub place : EntryPlace
  pub starts : place.start ≡ start
  pub ends : place.end ≡ end
  pub ordered : start ≤ end
  pub places : new ≡ old ++ place ∷ []

abbrev pub is_some_octets : List ℕ → Bool
is_some_octets [] = false
is_some_octets (c ∷ o) = true

-- each has octets for its value
abbrev pub all_kept : List Pair → Bool
all_kept [] = true
all_kept (x ∷ xs) = is_some_octets x.1 && all_kept xs

-- what stands at places, one behind the other
abbrev pub cuts : List ℕ → List EntryPlace → List ℕ
cuts written [] = []
cuts written (p ∷ ps) = cut written p ++ cuts written ps
