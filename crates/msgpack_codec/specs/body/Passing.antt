-- What is passed over of octets, each part behind the one before it: as what is read, but with each pair of a map.
use Rattle.std.specs.Prelude.{◌≡◌, ◌≤◌, ◌⊎◌, ℕ, zero, suc, List, [], ◌∷◌, ◌++◌, length, Bool, true, false, ◌&&◌, Ok, Err, Option, Some, None, if◌then◌else◌}
use Rattle.std.specs.Ordering.{nat_cmp, match_ordering}
use Rattle.std.specs.Cmp.Lexicographic.{slice_cmp}
use Rattle.message_tree.specs.Data as tree
use Rattle.msgpack_codec.specs.Format.{form_of}
use Rattle.msgpack_codec.specs.Values.{is_text}
use Rattle.msgpack_codec.specs.Short.{item_count, short, items_short, entries_short}
use Rattle.msgpack_codec.specs.Written.{add_entry, keys_ascend, carriage_of, entries_carriage}
use Rattle.msgpack_codec.specs.body.Writable.{is_writable, items_writable, entries_writable}
use Rattle.msgpack_codec.specs.body.Decoder.{◌>>=◌, Found, size_at, items_at, leaf_at}
use Rattle.msgpack_codec.specs.declared.fault.Fault.TheVariants.{Malformed}
use Rattle.msgpack_codec.specs.declared.format.Form.{Form}
use Rattle.msgpack_codec.specs.declared.format.Form.TheVariants as forms
use Rattle.msgpack_codec.specs.declared.carriage.Carriage.{Carriage}

-- so many keys with their values, behind those found; a map with another key than a text is uncarried
unfoldable pub pairs_at : (List ℕ → Found tree.Data) → ℕ → tree.Entries → Bool → List ℕ → Found tree.Data
pairs_at value zero found texts octets = Ok ((if texts then tree.dict found else tree.uncarried), octets)
pairs_at value (suc n) found texts octets = do
  k ← value octets
  v ← value k.1
  pairs_at value n (add_entry k.0 v.0 found) (texts && is_text k.0) v.1

-- a list of so many values
unfoldable pub list_at : (List ℕ → Found tree.Data) → ℕ → List ℕ → Found tree.Data
list_at value n octets = do
  ds ← items_at value n tree.no_items octets
  Ok (tree.list ds.0, ds.1)

-- a value after its first octet
unfoldable pub written_nest_at : (List ℕ → Found tree.Data) → Form → List ℕ → Found tree.Data
written_nest_at value forms.Null rest = leaf_at forms.Null rest
written_nest_at value (forms.Flag b) rest = leaf_at (forms.Flag b) rest
written_nest_at value (forms.Whole z) rest = leaf_at (forms.Whole z) rest
written_nest_at value (forms.Unsigned w) rest = leaf_at (forms.Unsigned w) rest
written_nest_at value (forms.Signed w) rest = leaf_at (forms.Signed w) rest
written_nest_at value (forms.Text size) rest = leaf_at (forms.Text size) rest
written_nest_at value (forms.Bytes size) rest = leaf_at (forms.Bytes size) rest
written_nest_at value (forms.List size) rest = do
  n ← size_at size rest
  list_at value n.0 n.1
written_nest_at value (forms.Dict size) rest = do
  n ← size_at size rest
  pairs_at value n.0 tree.no_entries true n.1
written_nest_at value (forms.Foreign size) rest = leaf_at (forms.Foreign size) rest
written_nest_at value (forms.Float w) rest = leaf_at (forms.Float w) rest
written_nest_at value forms.Never rest = leaf_at forms.Never rest

-- the value at the front, with so much room to nest in
unfoldable pub written_at : ℕ → List ℕ → Found tree.Data
written_at zero [] = Err Malformed
written_at zero (c ∷ rest) = leaf_at (form_of c) rest
written_at (suc room) [] = Err Malformed
written_at (suc room) (c ∷ rest) = written_nest_at (written_at room) (form_of c) rest

-- the bytes of a text
abbrev pub text_of : tree.Data → Option (List ℕ)
text_of tree.null = None
text_of (tree.flag b) = None
text_of (tree.whole z) = None
text_of (tree.text s) = Some s
text_of (tree.bytes b) = None
text_of (tree.list ds) = None
text_of (tree.dict ms) = None
text_of tree.uncarried = None

-- a value was read, and this is what is known of it
abbrev pub IsSeen : Found tree.Data → List ℕ → Carriage → Option (List ℕ) → Type 0
IsSeen found rest carriage text = (d : tree.Data) × (found ≡ Ok (d, rest)) × (carriage ≡ carriage_of d) × (text ≡ text_of d)

-- the key of the last entry
abbrev pub last_key : tree.Entries → Option (List ℕ)
last_key tree.no_entries = None
last_key (tree.entry k d tree.no_entries) = Some k
last_key (tree.entry k d (tree.entry l e es)) = last_key (tree.entry l e es)

-- whether a key stands behind the last one
abbrev pub is_next : Option (List ℕ) → List ℕ → Bool
is_next None k = true
is_next (Some l) k = match_ordering (slice_cmp nat_cmp l k) true false false

-- what is known of the pairs of a map so far
pub record AreKnown (texts ascend : Bool) (last : Option (List ℕ)) (carriage : Carriage) (found : tree.Entries) (all_texts : Bool) : Type 0 where
  pub texts_are : texts ≡ all_texts
  pub ascend_is : ascend ≡ keys_ascend found
  pub last_is : last ≡ last_key found
  pub carriage_is : carriage ≡ entries_carriage found

-- whether octets are the least that spell what h says is writable
pub record Tells (b h : Bool) (front least : List ℕ) : Type 0 where
  pub fits : length least ≤ length front
  pub is : b ≡ true → (h ≡ true) × (front ≡ least)
  pub of : h ≡ true → front ≡ least → b ≡ true

-- the same, where least are no more octets than these
abbrev pub TellsLeaf : Bool → Bool → List ℕ → List ℕ → Type 0
TellsLeaf b h front least = (b ≡ true → (h ≡ true) × (front ≡ least)) × (h ≡ true → front ≡ least → b ≡ true)

-- it is told of a value that was found whether it is spelled by the least octets
abbrev pub IsJudged : Found tree.Data → List ℕ → List ℕ → Bool → Type 0
IsJudged found octets rest b = (d : tree.Data) (front : List ℕ) → found ≡ Ok (d, rest) → octets ≡ front ++ rest → TellsLeaf b (is_writable d) front (short d)

abbrev pub IsFullyJudged : Found tree.Data → List ℕ → List ℕ → Bool → Type 0
IsFullyJudged found octets rest b = (d : tree.Data) (front : List ℕ) → found ≡ Ok (d, rest) → octets ≡ front ++ rest → Tells b (is_writable d) front (short d)

-- of a list, behind its head
abbrev pub AreItemsJudged : ℕ → List ℕ → Bool → tree.Data → Type 0
AreItemsJudged n body b d = (ds : tree.Items) × (d ≡ tree.list ds) × (item_count ds ≡ n) × Tells b (items_writable ds) body (items_short ds)

-- of a map, behind its head
abbrev pub ArePairsJudged : ℕ → List ℕ → Bool → tree.Data → Type 0
ArePairsJudged n body b d =
    ((es : tree.Entries) × (d ≡ tree.dict es) × (tree.entry_count es ≡ n) × Tells b (keys_ascend es && entries_writable es) body (entries_short es)) ⊎ ((d ≡ tree.uncarried) × (b ≡ false))
