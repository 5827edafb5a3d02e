-- What is written of each value behind what stood before, and how far a list or dictionary has come.
use Rattle.std.specs.Prelude.{◌≡◌, ◌-◌, ◌<◌, ◌≤◌, ℕ, suc, Bool, true, false, List, [], ◌∷◌, ◌++◌, length, map, Option, Some, None, option_map, nat_lt, if◌then◌else◌}
use Rattle.json.specs.Token.{Token}
use Rattle.json.specs.Json.{items, members, value, parse_map, after_end_array}
use Rattle.serde_json.specs.Data as json
use Rattle.serde_json.specs.Read.{number_of, of_json, of_items, of_members, converted}
use Rattle.message_tree.specs.Data as tree
use Rattle.message_tree.specs.View.{items_of}
use Rattle.json_codec.specs.Decoder.{number_tree, tree_of, items_tree, members_tree}
use Rattle.msgpack_codec.specs.Grammar.{Spells, AreSpelled, ArePairsSpelled, map_from}
use Rattle.json_to_msgpack.specs.body.Keys.{is_deep_at}
use Rattle.json_to_msgpack.specs.declared.fit.Fit.{Fit}
use Rattle.json_to_msgpack.specs.declared.fit.Fit.TheVariants.{Within, TooDeep, Unreadable}

-- serde_json reads 127 levels, where a message has room for 100
abbrev pub room_of : ℕ → ℕ
room_of level = level - 27

-- null in place of a value that nests deeper
abbrev pub pruned : ℕ → tree.Data → tree.Data
pruned room d = if nat_lt room (tree.depth d) then tree.null else d

abbrev pub pruned_entries : ℕ → tree.Entries → tree.Entries
pruned_entries room tree.no_entries = tree.no_entries
pruned_entries room (tree.entry k d es) = tree.entry k (pruned room d) (pruned_entries room es)

-- octets were written that spell a value with nothing inside
pub record IsLeafAdded (d : tree.Data) (before after : List ℕ) : Type 0 where
  pub octets : List ℕ
  pub behind : after ≡ before ++ octets
  pub spelled : (room : ℕ) → Spells room octets d

-- octets were written that spell a value within so many levels
pub record IsAdded (room : ℕ) (d : tree.Data) (before after : List ℕ) : Type 0 where
  pub octets : List ℕ
  pub behind : after ≡ before ++ octets
  pub spelled : Spells room octets d

-- null was written for a value that nests deeper
pub record IsCutOff (room : ℕ) (d : tree.Data) (before after : List ℕ) : Type 0 where
  pub deeper : room < tree.depth d
  pub behind : after ≡ before ++ 192 ∷ []

-- a value was written that is so deep
abbrev pub IsWritten : Fit → ℕ → tree.Data → List ℕ → List ℕ → Type 0
IsWritten Within room d before after = IsAdded room d before after
IsWritten TooDeep room d before after = IsCutOff room d before after
IsWritten Unreadable room d before after = ⊥

-- the value that a token is, where nothing is inside
abbrev pub leaf_of : Token → Option json.Data
leaf_of Token.begin_object = None
leaf_of Token.end_object = None
leaf_of Token.begin_array = None
leaf_of Token.end_array = None
leaf_of (Token.key s) = None
leaf_of (Token.string s) = Some (json.string s)
leaf_of (Token.number s) = option_map json.number (number_of s)
leaf_of (Token.boolean b) = Some (json.boolean b)
leaf_of Token.null = Some json.null
leaf_of Token.bad = None

-- a token is a value with nothing inside, which was written
pub record IsTokenAdded (t : Token) (before after : List ℕ) : Type 0 where
  pub leaf : json.Data
  pub read : leaf_of t ≡ Some leaf
  pub added : IsLeafAdded (tree_of leaf) before after

-- a token is a number that is too large for a float
pub record IsTooLarge (t : Token) : Type 0 where
  pub digits : List ℕ
  pub is : t ≡ Token.number digits
  pub none : number_of digits ≡ None

-- whether a token is a value, which was written then
abbrev pub IsTokenPut : Bool → Token → List ℕ → List ℕ → Type 0
IsTokenPut true t before after = IsTokenAdded t before after
IsTokenPut false t before after = IsTooLarge t

-- of the tokens `old` the first is a value with nothing inside, which was written, or is no value, and `new` the rest
pub record IsLeafTaken (read : Bool) (old new : List Token) (before after : List ℕ) : Type 0 where
  pub token : Token
  pub first : old ≡ token ∷ new
  pub put : IsTokenPut read token before after

-- of the tokens `old` the first are a value, which was written, and `new` the rest
pub record IsValueAdded (fit : Fit) (level : ℕ) (old new : List Token) (before after : List ℕ) : Type 0 where
  pub found : json.Data
  pub read : converted of_json (value level old) ≡ Some (found, new)
  pub written : IsWritten fit (room_of level) (tree_of found) before after

-- the tokens begin with no value, nor with the end of a list
pub record IsNoValue (level : ℕ) (old : List Token) : Type 0 where
  pub going : after_end_array old ≡ None
  pub none : converted of_json (value level old) ≡ None

abbrev pub IsValuePut : Fit → ℕ → List Token → List Token → List ℕ → List ℕ → Type 0
IsValuePut Within level old new before after = IsValueAdded Within level old new before after
IsValuePut TooDeep level old new before after = IsValueAdded TooDeep level old new before after
IsValuePut Unreadable level old new before after = IsNoValue level old

-- what is read of a list whose bracket was taken; its members have so many levels
abbrev pub list_read : ℕ → List Token → Option (json.Items × List Token)
list_read level old = converted of_items (items (value level) (length old) old)

-- the same of a dictionary
abbrev pub dict_read : ℕ → List Token → Option (json.Members × List Token)
dict_read level old = converted (λ ms. of_members ms json.no_members) (members (value level) (length old) old)

-- of the tokens `old` the first are a list whose bracket was taken, which was written, and `new` the rest
pub record IsListAdded (fit : Fit) (level : ℕ) (old new : List Token) (before after : List ℕ) : Type 0 where
  pub found : json.Items
  pub read : list_read level old ≡ Some (found, new)
  pub written : IsWritten fit (room_of (suc level)) (tree.list (items_tree found)) before after

abbrev pub IsListPut : Fit → ℕ → List Token → List Token → List ℕ → List ℕ → Type 0
IsListPut Within level old new before after = IsListAdded Within level old new before after
IsListPut TooDeep level old new before after = IsListAdded TooDeep level old new before after
IsListPut Unreadable level old new before after = list_read level old ≡ None

-- the same of a dictionary
pub record IsDictAdded (fit : Fit) (level : ℕ) (old new : List Token) (before after : List ℕ) : Type 0 where
  pub found : json.Members
  pub read : dict_read level old ≡ Some (found, new)
  pub written : IsWritten fit (room_of (suc level)) (tree.dict (members_tree found)) before after

abbrev pub IsDictPut : Fit → ℕ → List Token → List Token → List ℕ → List ℕ → Type 0
IsDictPut Within level old new before after = IsDictAdded Within level old new before after
IsDictPut TooDeep level old new before after = IsDictAdded TooDeep level old new before after
IsDictPut Unreadable level old new before after = dict_read level old ≡ None

-- some items, and then others
abbrev pub items_behind : List json.Data → json.Items → json.Items
items_behind [] rest = rest
items_behind (d ∷ ds) rest = json.item d (items_behind ds rest)

-- there is room for a list, and the octets spell its members; or else it is known to be too deep
abbrev pub AreWithin : Bool → ℕ → List ℕ → List tree.Data → Type 0
AreWithin true level body ds = (27 ≤ level) × AreSpelled (Spells (room_of level)) body ds
AreWithin false level body ds = room_of (suc level) ≤ tree.items_depth (items_of ds)

-- a list is open: `now` are the tokens that are left of `old`, and so many members were written behind an octet for the head
pub record IsListOpen (within : Bool) (level : ℕ) (old now : List Token) (before after : List ℕ) (count : ℕ) : Type 0 where
  pub found : List json.Data
  pub turns : ℕ
  pub enough : length now ≤ turns
  pub read : list_read level old ≡ parse_map (items_behind found) (converted of_items (items (value level) turns now))
  pub body : List ℕ
  pub behind : after ≡ before ++ (0 ∷ body)
  pub spelled : AreWithin within level body (map tree_of found)
  pub counted : count ≡ length found
  pub shorter : length now ≤ length old

-- the same of a dictionary, of whose keys each stands once among those found; `has` are those whose value is too deep
pub record IsDictOpen (has : List ℕ → Bool) (level : ℕ) (old now : List Token) (before after : List ℕ) (count : ℕ) : Type 0 where
  pub found : json.Members
  pub turns : ℕ
  pub enough : length now ≤ turns
  pub read : dict_read level old ≡ converted (λ ms. of_members ms found) (members (value level) turns now)
  pub body : List ℕ
  pub behind : after ≡ before ++ (0 ∷ body)
  pub pairs : List (tree.Data × tree.Data)
  pub spelled : ArePairsSpelled (Spells (room_of level)) body pairs
  pub made : map_from tree.no_entries true pairs ≡ tree.dict (pruned_entries (room_of level) (members_tree found))
  pub ascending : tree.IsAscending (members_tree found)
  pub deep : (q : List ℕ) → has q ≡ is_deep_at (room_of level) q (members_tree found)
  pub counted : count ≡ length pairs
  pub shorter : length now ≤ length old

-- there is a number, and what was written spells it
pub record IsNumberAdded (n : Option json.Num) (before after : List ℕ) : Type 0 where
  pub number : json.Num
  pub read : n ≡ Some number
  pub added : IsLeafAdded (number_tree number) before after

-- whether there is a number, and then what was written spells it
abbrev pub IsNumberPut : Bool → Option json.Num → List ℕ → List ℕ → Type 0
IsNumberPut true n before after = IsNumberAdded n before after
IsNumberPut false n before after = n ≡ None

-- of the tokens `old` the first is this key, which was written, and `new` the rest
pub record IsKeyAdded (key : List ℕ) (old new : List Token) (before after : List ℕ) : Type 0 where
  pub read : old ≡ Token.key key ∷ new
  pub added : IsLeafAdded (tree.text key) before after
