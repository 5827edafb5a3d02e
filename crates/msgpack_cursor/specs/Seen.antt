-- The data that what was seen of a value stands for.
use Rattle.std.specs.Prelude.{◌≡◌, ◌⊎◌, Bool, true, false}
use Rattle.message_tree.specs.Data as tree
use Rattle.msgpack_cursor.specs.declared.seen.Beginning.{Beginning}
use Rattle.msgpack_cursor.specs.declared.seen.Beginning.TheVariants as begins
use Rattle.msgpack_cursor.specs.declared.seen.Seen.{Seen}
use Rattle.msgpack_cursor.specs.declared.seen.Seen.TheVariants.{Null, Flag, Whole, Text, Bytes, List, Dict, Uncarried}

abbrev pub data_of : Seen → tree.Data
data_of Null = tree.null
data_of (Flag b) = tree.flag b
data_of (Whole z) = tree.whole z
data_of (Text s) = tree.text s.now
data_of (Bytes b) = tree.bytes b.now
data_of (List ds) = tree.list ds
data_of (Dict es) = tree.dict es
data_of Uncarried = tree.uncarried

-- a flag, a number, a text or a byte string
abbrev pub is_leaf : tree.Data → Bool
is_leaf tree.null = false
is_leaf (tree.flag b) = true
is_leaf (tree.whole z) = true
is_leaf (tree.text s) = true
is_leaf (tree.bytes b) = true
is_leaf (tree.list ds) = false
is_leaf (tree.dict es) = false
is_leaf tree.uncarried = false

-- what a value can be that begins so
abbrev pub BeginsAs : Beginning → tree.Data → Type 0
BeginsAs begins.Null d = d ≡ tree.null
BeginsAs begins.List d = (ds : tree.Items) × (d ≡ tree.list ds)
BeginsAs begins.Map d = ((es : tree.Entries) × (d ≡ tree.dict es)) ⊎ (d ≡ tree.uncarried)
BeginsAs begins.Uncarried d = d ≡ tree.uncarried
BeginsAs begins.Leaf d = is_leaf d ≡ true
