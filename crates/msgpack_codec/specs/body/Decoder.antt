-- What is read of octets, each part behind the one before it, or the fault that is met first: what the code does, and no part of the grammar.
use Rattle.std.specs.Prelude.{◌==◌, ◌&&◌, ℕ, zero, suc, pos, List, [], ◌∷◌, length, take, drop, Bool, true, Result, Ok, Err, nat_lt, if◌then◌else◌}
use Rattle.std.specs.Result.{result_flatten, result_map_both}
use Rattle.std.specs.Int.{byte_len, from_be_bytes}
use Rattle.message_tree.specs.Data as tree
use Rattle.msgpack_codec.specs.Format.{form_of, bits_of}
use Rattle.msgpack_codec.specs.Values.{signed_from, text_from, keep_entry, is_text}
use Rattle.msgpack_codec.specs.declared.fault.Fault.{Fault}
use Rattle.msgpack_codec.specs.declared.fault.Fault.TheVariants.{TooDeep, Malformed}
use Rattle.msgpack_codec.specs.declared.format.Form.{Form}
use Rattle.msgpack_codec.specs.declared.format.Form.TheVariants as forms
use Rattle.msgpack_codec.specs.declared.format.Size.{Size}
use Rattle.msgpack_codec.specs.declared.format.Size.TheVariants.{Here, Next}
use Rattle.msgpack_codec.specs.declared.format.Width.{Width}

-- a step, and the next one where it did not fail
infixl 10 ◌>>=◌
abbrev pub ◌>>=◌ : {A B : Type 0} → Result A Fault → (A → Result B Fault) → Result B Fault
step >>= next = result_flatten (result_map_both next (λ fault. fault) step)

-- a value at the front of octets, and the octets after it
abbrev pub Found : Type 0 → Type 0
Found A = Result (A × List ℕ) Fault

abbrev pub octets_at : ℕ → List ℕ → Found (List ℕ)
octets_at n octets = if nat_lt (length octets) n then Err Malformed else Ok (take n octets, drop n octets)

abbrev pub number_at : Width → List ℕ → Found ℕ
number_at w octets = if nat_lt (length octets) (byte_len (bits_of w)) then Err Malformed
    else Ok (from_be_bytes (bits_of w) (take (byte_len (bits_of w)) octets), drop (byte_len (bits_of w)) octets)

unfoldable pub size_at : Size → List ℕ → Found ℕ
size_at (Here n) octets = Ok (n, octets)
size_at (Next w) octets = number_at w octets

-- so many octets, by a size that stands before them
unfoldable pub sized_at : Size → List ℕ → Found (List ℕ)
sized_at size octets = do
  n ← size_at size octets
  octets_at n.0 n.1

abbrev pub push_item : tree.Items → tree.Data → tree.Items
push_item tree.no_items e = tree.item e tree.no_items
push_item (tree.item d ds) e = tree.item d (push_item ds e)

-- so many values, behind those found
unfoldable pub items_at : (List ℕ → Found tree.Data) → ℕ → tree.Items → List ℕ → Found tree.Items
items_at value zero found octets = Ok (found, octets)
items_at value (suc n) found octets = do
  d ← value octets
  items_at value n (push_item found d.0) d.1

-- so many keys with their values, put into those found; a map with another key than a text is uncarried
unfoldable pub dict_at : (List ℕ → Found tree.Data) → ℕ → tree.Entries → Bool → List ℕ → Found tree.Data
dict_at value zero found texts octets = Ok ((if texts then tree.dict found else tree.uncarried), octets)
dict_at value (suc n) found texts octets = do
  k ← value octets
  v ← value k.1
  dict_at value n (keep_entry k.0 v.0 found) (texts && is_text k.0) v.1

-- a value that nests nothing, after its first octet
unfoldable pub leaf_at : Form → List ℕ → Found tree.Data
leaf_at forms.Null rest = Ok (tree.null, rest)
leaf_at (forms.Flag b) rest = Ok (tree.flag b, rest)
leaf_at (forms.Whole z) rest = Ok (tree.whole z, rest)
leaf_at (forms.Unsigned w) rest = do
  n ← number_at w rest
  Ok (tree.whole (pos n.0), n.1)
leaf_at (forms.Signed w) rest = do
  n ← number_at w rest
  Ok (tree.whole (signed_from w n.0), n.1)
leaf_at (forms.Text size) rest = do
  s ← sized_at size rest
  Ok (text_from s.0, s.1)
leaf_at (forms.Bytes size) rest = do
  s ← sized_at size rest
  Ok (tree.bytes s.0, s.1)
leaf_at (forms.List size) rest = Err TooDeep
leaf_at (forms.Dict size) rest = Err TooDeep
leaf_at (forms.Foreign size) rest = do
  n ← size_at size rest
  kind ← octets_at 1 n.1
  s ← octets_at n.0 kind.1
  Ok (tree.uncarried, s.1)
leaf_at (forms.Float w) rest = do
  n ← number_at w rest
  Ok (tree.uncarried, n.1)
leaf_at forms.Never rest = Err Malformed

-- the same, where what is inside can be read
unfoldable pub nest_at : (List ℕ → Found tree.Data) → Form → List ℕ → Found tree.Data
nest_at value forms.Null rest = leaf_at forms.Null rest
nest_at value (forms.Flag b) rest = leaf_at (forms.Flag b) rest
nest_at value (forms.Whole z) rest = leaf_at (forms.Whole z) rest
nest_at value (forms.Unsigned w) rest = leaf_at (forms.Unsigned w) rest
nest_at value (forms.Signed w) rest = leaf_at (forms.Signed w) rest
nest_at value (forms.Text size) rest = leaf_at (forms.Text size) rest
nest_at value (forms.Bytes size) rest = leaf_at (forms.Bytes size) rest
nest_at value (forms.List size) rest = do
  n ← size_at size rest
  ds ← items_at value n.0 tree.no_items n.1
  Ok (tree.list ds.0, ds.1)
nest_at value (forms.Dict size) rest = do
  n ← size_at size rest
  dict_at value n.0 tree.no_entries true n.1
nest_at value (forms.Foreign size) rest = leaf_at (forms.Foreign size) rest
nest_at value (forms.Float w) rest = leaf_at (forms.Float w) rest
nest_at value forms.Never rest = leaf_at forms.Never rest

-- the value at the front, with so much room to nest in
unfoldable pub value_at : ℕ → List ℕ → Found tree.Data
value_at zero [] = Err Malformed
value_at zero (c ∷ rest) = leaf_at (form_of c) rest
value_at (suc room) [] = Err Malformed
value_at (suc room) (c ∷ rest) = nest_at (value_at room) (form_of c) rest

-- exactly one value
unfoldable pub message_at : List ℕ → Result tree.Data Fault
message_at octets = do
  d ← value_at 100 octets
  if length d.1 == 0 then Ok d.0 else Err Malformed
