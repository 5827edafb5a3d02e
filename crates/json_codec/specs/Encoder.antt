-- The JSON value that is written for a tree.
use Rattle.std.specs.Prelude.{◌∷◌, ◌++◌, ◌==◌, ◌&&◌, ℕ, List, [], Bool, true, not}
use Rattle.base64.specs.Engines.{standard}
use Rattle.base64.specs.GeneralPurpose.{encode_of}
use Rattle.serde_json.specs.Data as json
use Rattle.serde_json.specs.Find.{of_integer}
use Rattle.serde_json.specs.Written.{comma_if, compact_text}
use Rattle.message_tree.specs.Data as tree
use Rattle.json_codec.specs.Decoder.{mark}

-- a value has no place for what is uncarried, which is never written
abbrev mutual
  pub value_of : tree.Data → json.Data
  value_of tree.null = json.null
  value_of (tree.flag b) = json.boolean b
  value_of (tree.whole z) = json.number (of_integer z)
  value_of (tree.text s) = json.string s
  value_of (tree.bytes b) = json.string (mark ∷ encode_of standard b)
  value_of (tree.list ds) = json.array (items_value ds)
  value_of (tree.dict es) = json.object (entries_value es)
  value_of tree.uncarried = json.null

  pub items_value : tree.Items → json.Items
  items_value tree.no_items = json.no_items
  items_value (tree.item d ds) = json.item (value_of d) (items_value ds)

  pub entries_value : tree.Entries → json.Members
  entries_value tree.no_entries = json.no_members
  entries_value (tree.entry k d es) = json.member k (value_of d) (entries_value es)

-- the octets that are written for a carried tree: no space, keys ascending
abbrev pub json_text : tree.Data → List ℕ
json_text d = compact_text (value_of d)

-- each member behind a comma
abbrev pub further_text : tree.Items → List ℕ
further_text tree.no_items = []
further_text (tree.item d ds) = 44 ∷ (json_text d ++ further_text ds)

-- entries, the first perhaps behind a comma
abbrev pub entries_text : Bool → tree.Entries → List ℕ
entries_text later tree.no_entries = []
entries_text later (tree.entry k d es) = (comma_if later ++ (json_text (tree.text k) ++ 58 ∷ [])) ++ (json_text d ++ entries_text true es)

abbrev pub is_unmarked : List ℕ → Bool
is_unmarked [] = true
is_unmarked (c ∷ rest) = not (c == mark)

-- no text in it begins with the mark
abbrev mutual
  pub has_plain_texts : tree.Data → Bool
  has_plain_texts tree.null = true
  has_plain_texts (tree.flag b) = true
  has_plain_texts (tree.whole z) = true
  has_plain_texts (tree.text s) = is_unmarked s
  has_plain_texts (tree.bytes b) = true
  has_plain_texts (tree.list ds) = items_plain ds
  has_plain_texts (tree.dict es) = entries_plain es
  has_plain_texts tree.uncarried = true

  pub items_plain : tree.Items → Bool
  items_plain tree.no_items = true
  items_plain (tree.item d ds) = has_plain_texts d && items_plain ds

  pub entries_plain : tree.Entries → Bool
  entries_plain tree.no_entries = true
  entries_plain (tree.entry k d es) = has_plain_texts d && entries_plain es
