-- A value by its first token.
use Rattle.std.proofs.Common.{◌≡◌, ℕ, suc, ◌-◌, List, ◌∷◌, length, Option, None, option_map, refl, sym, ap, ◌∙◌, subst, arith}
use Rattle.json.specs.Token.{Token}
use Rattle.json.specs.Json.{items, members, value, parse_map}
use Rattle.json.proofs.Grammar.{value_is, value-begin_array, value-begin_object}
use Rattle.serde_json.specs.Data as json
use Rattle.serde_json.specs.Read.{number_of, of_json, converted}
use Rattle.json_to_msgpack.proofs.Turns.{as_array, as_object}
use Rattle.message_tree.specs.Data as tree
use Rattle.json_codec.specs.Decoder.{items_tree, members_tree}
use Rattle.json_to_msgpack.specs.declared.fit.Fit.{Fit}
use Rattle.json_to_msgpack.specs.declared.fit.Fit.TheVariants.{Within, TooDeep, Unreadable}
use Rattle.json_to_msgpack.specs.body.Values.{room_of, list_read, dict_read, IsWritten, IsTokenAdded, IsTooLarge, IsValueAdded, IsNoValue, IsValuePut, IsListAdded, IsListPut, IsDictAdded, IsDictPut}
use Rattle.json_to_msgpack.proofs.LeafSpellings.{leaf_read}

-- ---- nothing inside

pub leaf_is_value : (level : ℕ) (t : Token) (rest : List Token) (before after : List ℕ) → IsTokenAdded t before after → IsValueAdded Within level (t ∷ rest) rest before after
leaf_is_value level t rest before after h = record {
  found = h.leaf;
  read = leaf_read level t rest h.leaf h.read;
  written = record { octets = h.added.octets; behind = h.added.behind; spelled = h.added.spelled (room_of level) };
}

number_is_none : (level : ℕ) (s : List ℕ) (rest : List Token) → number_of s ≡ None → IsNoValue level (Token.number s ∷ rest)
number_is_none level s rest e = record {
  going = refl;
  none = ap (converted of_json) (value_is level (Token.number s ∷ rest)) ∙ ap (λ (o : Option json.Num). option_map (λ d. (d, rest)) (option_map json.number o)) e;
}

pub large_is_none : (level : ℕ) (t : Token) (rest : List Token) → IsTooLarge t → IsNoValue level (t ∷ rest)
large_is_none level t rest h = subst (λ (x : Token). IsNoValue level (x ∷ rest)) (sym h.is) (number_is_none level h.digits rest h.none)

-- ---- a list

list_value : (level less : ℕ) (ts : List Token) → level ≡ suc less → converted of_json (value level (Token.begin_array ∷ ts)) ≡ parse_map json.array (list_read less ts)
list_value level less ts e =
    let same : level - 1 ≡ less = omega arith in
    ap (converted of_json) (value-begin_array level ts (omega arith))
    ∙ as_array (items (value (level - 1)) (length ts) ts)
    ∙ ap (λ (n : ℕ). parse_map json.array (list_read n ts)) same

list_added : (fit : Fit) (level less : ℕ) (ts rest : List Token) (before after : List ℕ) → level ≡ suc less → IsListAdded fit less ts rest before after → IsValueAdded fit level (Token.begin_array ∷ ts) rest before after
list_added fit level less ts rest before after e h = record {
  found = json.array h.found;
  read = list_value level less ts e ∙ ap (parse_map json.array) h.read;
  written = subst (λ n. IsWritten fit (room_of n) (tree.list (items_tree h.found)) before after) (sym e) h.written;
}

pub list_is_value : (fit : Fit) (level less : ℕ) (ts rest : List Token) (before after : List ℕ) → level ≡ suc less → IsListPut fit less ts rest before after → IsValuePut fit level (Token.begin_array ∷ ts) rest before after
list_is_value Within level less ts rest before after e h = list_added Within level less ts rest before after e h
list_is_value TooDeep level less ts rest before after e h = list_added TooDeep level less ts rest before after e h
list_is_value Unreadable level less ts rest before after e h = record { going = refl; none = list_value level less ts e ∙ ap (parse_map json.array) h }

-- ---- a dictionary

dict_value : (level less : ℕ) (ts : List Token) → level ≡ suc less → converted of_json (value level (Token.begin_object ∷ ts)) ≡ parse_map json.object (dict_read less ts)
dict_value level less ts e =
    let same : level - 1 ≡ less = omega arith in
    ap (converted of_json) (value-begin_object level ts (omega arith))
    ∙ as_object (members (value (level - 1)) (length ts) ts)
    ∙ ap (λ (n : ℕ). parse_map json.object (dict_read n ts)) same

dict_added : (fit : Fit) (level less : ℕ) (ts rest : List Token) (before after : List ℕ) → level ≡ suc less → IsDictAdded fit less ts rest before after → IsValueAdded fit level (Token.begin_object ∷ ts) rest before after
dict_added fit level less ts rest before after e h = record {
  found = json.object h.found;
  read = dict_value level less ts e ∙ ap (parse_map json.object) h.read;
  written = subst (λ n. IsWritten fit (room_of n) (tree.dict (members_tree h.found)) before after) (sym e) h.written;
}

pub dict_is_value : (fit : Fit) (level less : ℕ) (ts rest : List Token) (before after : List ℕ) → level ≡ suc less → IsDictPut fit less ts rest before after → IsValuePut fit level (Token.begin_object ∷ ts) rest before after
dict_is_value Within level less ts rest before after e h = dict_added Within level less ts rest before after e h
dict_is_value TooDeep level less ts rest before after e h = dict_added TooDeep level less ts rest before after e h
dict_is_value Unreadable level less ts rest before after e h = record { going = refl; none = dict_value level less ts e ∙ ap (parse_map json.object) h }
