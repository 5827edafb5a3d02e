-- A list, a member at a time.
use Rattle.std.proofs.Common.{◌≡◌, ℕ, suc, ◌+◌, ◌-◌, ◌^◌, ◌<◌, max, nat_lt, nat_le, Bool, true, false, not, ◌&&◌, if◌then◌else◌, List, [], ◌∷◌, ◌++◌, length, map, take, drop, Option, Some, None, refl, sym, ap, ◌∙◌, subst, append_assoc, arith, length-append}
use Rattle.std.proofs.lemmas.Bool.{ltb-true, leb-true, leb-false}
use Rattle.std.proofs.lemmas.List.{map-append, length-map}
use Rattle.json.specs.Token.{Token}
use Rattle.json.specs.Json.{value, parse_map, after_end_array}
use Rattle.serde_json.specs.Data as json
use Rattle.json.proofs.Grammar.{value_is}
use Rattle.serde_json.specs.Read.{of_json, converted}
use Rattle.msgpack_codec.specs.Short.{list_head}
use Rattle.json_to_msgpack.proofs.Turns.{item_turn, item_none, items_over}
use Rattle.message_tree.specs.Data as tree
use Rattle.message_tree.specs.View.{items_of}
use Rattle.msgpack_codec.specs.Grammar.{Spells}
use Rattle.json_codec.specs.Decoder.{tree_of, items_tree}
use Rattle.json_to_msgpack.specs.declared.fit.Fit.{Fit}
use Rattle.json_to_msgpack.specs.declared.fit.Fit.TheVariants.{Within, TooDeep}
use Rattle.json_to_msgpack.specs.body.Fits.{is_within}
use Rattle.json_to_msgpack.specs.body.Values.{room_of, pruned, items_behind, list_read, AreWithin, IsValueAdded, IsNoValue, IsListAdded, IsListOpen}
use Rattle.json_to_msgpack.proofs.DeepEntries.{written_pruned}
use Rattle.json_to_msgpack.proofs.Heads.{headed, nulled, list_spells, one_more_spelled}

pub behind_push : (ds : List json.Data) (d : json.Data) (rest : json.Items) → items_behind ds (json.item d rest) ≡ items_behind (ds ++ d ∷ []) rest
behind_push [] d rest = refl
behind_push (e ∷ ds) d rest = ap (json.item e) (behind_push ds d rest)

one_more : (ds : List json.Data) (d : json.Data) (o : Option (json.Items × List Token)) → parse_map (items_behind ds) (parse_map (json.item d) o) ≡ parse_map (items_behind (ds ++ d ∷ [])) o
one_more ds d None = refl
one_more ds d (Some p) = ap (λ (x : json.Items). Some (x, p.1)) (behind_push ds d p.0)

none_behind : (o : Option (json.Items × List Token)) → o ≡ parse_map (items_behind []) o
none_behind None = refl
none_behind (Some p) = refl

items_tree-behind : (ds : List json.Data) → items_tree (items_behind ds json.no_items) ≡ items_of (map tree_of ds)
items_tree-behind [] = refl
items_tree-behind (d ∷ ds) = ap (tree.item (tree_of d)) (items_tree-behind ds)

-- ---- how deep the members are

begun : (within : Bool) (level : ℕ) → within ≡ nat_le 27 level → AreWithin within level [] []
begun true level e = (leb-true 27 level (sym e), refl)
begun false level e = omega (arith, leb-false 27 level (sym e))

depth_push : (ds : List tree.Data) (d : tree.Data) → tree.items_depth (items_of (ds ++ d ∷ [])) ≡ max (tree.items_depth (items_of ds)) (tree.depth d)
depth_push [] d = omega arith
depth_push (e ∷ ds) d = omega (arith, depth_push ds d)

within_step : (within inside : Bool) (level : ℕ) (body octets : List ℕ) (ds : List tree.Data) (d : tree.Data) → AreWithin within level body ds → nat_lt (room_of level) (tree.depth d) ≡ not inside
    → Spells (room_of level) octets (pruned (room_of level) d) → AreWithin (within && inside) level (body ++ octets) (ds ++ d ∷ [])
within_step true true level body octets ds d h e s =
    (h.0, one_more_spelled (Spells (room_of level)) body octets ds d h.1 (subst (Spells (room_of level) octets) (ap (λ b. if b then tree.null else d) e) s))
within_step true false level body octets ds d h e s = omega (arith, ltb-true (room_of level) (tree.depth d) e, depth_push ds d)
within_step false inside level body octets ds d h e s = omega (arith, h, depth_push ds d)

-- ---- a list that is open

pub list_begun : (within : Bool) (level : ℕ) (old : List Token) (before after : List ℕ) → within ≡ nat_le 27 level → after ≡ before ++ 0 ∷ [] → IsListOpen within level old old before after 0
list_begun within level old before after room e = record {
  found = [];
  turns = length old;
  enough = omega arith;
  read = none_behind _;
  body = [];
  behind = e;
  spelled = begun within level room;
  counted = refl;
  shorter = omega arith;
}

not_none : (o : Option (json.Data × List Token)) (p : json.Data × List Token) (r : Option (List Token)) → o ≡ None → o ≡ Some p → r ≡ None
not_none o p r e f = absurd cc

-- a value is no closing bracket
no_end : (depth : ℕ) (now : List Token) (d : json.Data) (next : List Token) → converted of_json (value depth now) ≡ Some (d, next) → after_end_array now ≡ None
no_end depth [] d next e = refl
no_end depth (Token.begin_object ∷ ts) d next e = refl
no_end depth (Token.end_object ∷ ts) d next e = refl
no_end depth (Token.begin_array ∷ ts) d next e = refl
no_end depth (Token.end_array ∷ ts) d next e = not_none (converted of_json (value depth (Token.end_array ∷ ts))) (d, next) (Some ts) (ap (converted of_json) (value_is depth (Token.end_array ∷ ts))) e
no_end depth (Token.key s ∷ ts) d next e = refl
no_end depth (Token.string s ∷ ts) d next e = refl
no_end depth (Token.number s ∷ ts) d next e = refl
no_end depth (Token.boolean b ∷ ts) d next e = refl
no_end depth (Token.null ∷ ts) d next e = refl
no_end depth (Token.bad ∷ ts) d next e = refl

pub list_step : (within inside : Bool) (fit : Fit) (level count more : ℕ) (old now next : List Token) (before all after : List ℕ) → IsListOpen within level old now before all count → IsValueAdded fit level now next all after
    → length next < length now → inside ≡ (within && is_within fit) → more ≡ count + 1 → IsListOpen inside level old next before after more
list_step within inside fit level count more old now next before all after h v less both e =
    let w = written_pruned fit (room_of level) (tree_of v.found) all after v.written in
    let enough = h.enough in
    let shorter = h.shorter in
    let counted = h.counted in
    let now_within = within_step within (is_within fit) level h.body w.octets (map tree_of h.found) (tree_of v.found) h.spelled w.deeper w.spelled in
    record {
      found = h.found ++ v.found ∷ [];
      turns = h.turns - 1;
      enough = omega arith;
      read = h.read ∙ ap (parse_map (items_behind h.found)) (item_turn (value level) h.turns now next v.found (omega arith) (no_end level now v.found next v.read) v.read) ∙ one_more h.found v.found _;
      body = h.body ++ w.octets;
      behind = w.behind ∙ ap (λ (l : List ℕ). l ++ w.octets) h.behind ∙ append_assoc before (0 ∷ h.body) w.octets;
      spelled = subst (AreWithin inside level (h.body ++ w.octets)) (sym (map-append tree_of h.found (v.found ∷ []))) (subst (λ b. AreWithin b level (h.body ++ w.octets) (map tree_of h.found ++ tree_of v.found ∷ [])) (sym both) now_within);
      counted = omega (arith, length-append h.found (v.found ∷ []));
      shorter = omega arith;
    }

-- a member that is no value: there is no list
pub list_broken : (within : Bool) (level count : ℕ) (old now : List Token) (before all : List ℕ) → IsListOpen within level old now before all count → IsNoValue level now → list_read level old ≡ None
list_broken within level count old now before all h n =
    h.read ∙ ap (parse_map (items_behind h.found)) (item_none (value level) h.turns now n.going n.none)

read_over : (within : Bool) (level count : ℕ) (old now rest : List Token) (before all : List ℕ) (h : IsListOpen within level old now before all count) → now ≡ Token.end_array ∷ rest
    → list_read level old ≡ Some (items_behind h.found json.no_items, rest)
read_over within level count old now rest before all h over =
    h.read ∙ ap (parse_map (items_behind h.found)) (items_over (value level) h.turns now rest h.enough (ap after_end_array over))

pub list_done : (level count head : ℕ) (old now rest : List Token) (before all after : List ℕ) → IsListOpen true level old now before all count → now ≡ Token.end_array ∷ rest → count < 2 ^ 32
    → head ≡ length before → after ≡ take head all ++ (list_head count ++ drop (head + 1) all) → IsListAdded Within level old rest before after
list_done level count head old now rest before all after h over few at e =
    let ds = map tree_of h.found in
    let many : count ≡ length ds = h.counted ∙ sym (length-map h.found tree_of) in
    let room : room_of (suc level) ≡ suc (room_of level) = omega (arith, h.spelled.0) in
    let octets = list_head count ++ h.body in
    record {
      found = items_behind h.found json.no_items;
      read = read_over true level count old now rest before all h over;
      written = record {
        octets = octets;
        behind = headed head before all (list_head count) h.body after at h.behind e;
        spelled = subst (λ r. Spells r octets (tree.list (items_tree (items_behind h.found json.no_items)))) (sym room) (subst (λ x. Spells (suc (room_of level)) octets (tree.list x)) (sym (items_tree-behind h.found)) (list_spells (room_of level) count h.body ds many few h.spelled.1));
      };
    }

-- a list that is too deep becomes null
pub list_cut : (level count head : ℕ) (old now rest : List Token) (before all after : List ℕ) → IsListOpen false level old now before all count → now ≡ Token.end_array ∷ rest
    → head ≡ length before → after ≡ take head all ++ 192 ∷ [] → IsListAdded TooDeep level old rest before after
list_cut level count head old now rest before all after h over at e = record {
  found = items_behind h.found json.no_items;
  read = read_over false level count old now rest before all h over;
  written = record {
    deeper = subst (λ (x : tree.Items). room_of (suc level) < tree.depth (tree.list x)) (sym (items_tree-behind h.found)) (omega (arith, h.spelled));
    behind = nulled head before all h.body after at h.behind e;
  };
}
