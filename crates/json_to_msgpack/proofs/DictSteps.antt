-- A dictionary, a key and its value at a time.
use Rattle.std.proofs.Common.{◌≡◌, ℕ, suc, ◌+◌, ◌-◌, ◌^◌, ◌<◌, ◌≤◌, Bool, true, false, not, cond, ◌&&◌, ◌⊎◌, ⊎_elim, List, [], ◌∷◌, ◌++◌, length, take, drop, Some, None, refl, sym, ap, ap₂, subst, ◌∙◌, append_assoc, arith, length-append}
use Rattle.std.specs.Ordering.{nat_cmp, match_ordering}
use Rattle.std.specs.Cmp.Lexicographic.{slice_cmp}
use Rattle.std.specs.Str.{bytes_eq}
use Rattle.json.specs.Token.{Token}
use Rattle.json.specs.Json.{value, read_key}
use Rattle.json.proofs.Grammar.{read_key-shorter}
use Rattle.serde_json.specs.Data as json
use Rattle.json_to_msgpack.proofs.Turns.{member_turn, member_none, members_over}
use Rattle.message_tree.specs.Data as tree
use Rattle.message_tree.proofs.Comparisons.{through}
use Rattle.msgpack_codec.specs.Values.{keep_entry, is_text}
use Rattle.msgpack_codec.specs.Grammar.{map_from, Spells}
use Rattle.msgpack_codec.specs.Short.{dict_head}
use Rattle.json_codec.specs.Decoder.{tree_of, members_tree}
use Rattle.json_to_msgpack.specs.declared.fit.Fit.{Fit}
use Rattle.json_to_msgpack.specs.declared.fit.Fit.TheVariants.{Within, TooDeep}
use Rattle.json_to_msgpack.specs.body.Fits.{is_within}
use Rattle.json_to_msgpack.specs.body.Keys.{is_deep_at}
use Rattle.json_to_msgpack.specs.body.Values.{room_of, pruned, pruned_entries, dict_read, IsKeyAdded, IsValueAdded, IsNoValue, IsDictAdded, IsDictOpen}
use Rattle.json_to_msgpack.proofs.DeepEntries.{written_pruned, ascending-put, pruned_entries-put, deep-put, none_deep, some_deep}
use Rattle.json_to_msgpack.proofs.Heads.{headed, nulled, dict_spells, one_more_pair}

-- the last of equal keys stays, in both
members_tree-put : (k : List ℕ) (d : json.Data) (ms : json.Members) → members_tree (json.put k d ms) ≡ tree.put k (tree_of d) (members_tree ms)
members_tree-put k d json.no_members = refl
members_tree-put k d (json.member l e ms) =
    sym (through members_tree (slice_cmp nat_cmp k l) (json.member k d (json.member l e ms)) (json.member l d ms) (json.member l e (json.put k d ms)))
    ∙ ap (λ (es : tree.Entries). match_ordering (slice_cmp nat_cmp k l) (tree.entry k (tree_of d) (tree.entry l (tree_of e) (members_tree ms))) (tree.entry l (tree_of d) (members_tree ms)) (tree.entry l (tree_of e) es)) (members_tree-put k d ms)

map_from-push : (ps : List (tree.Data × tree.Data)) (found es : tree.Entries) (texts : Bool) (k : List ℕ) (v : tree.Data) → map_from found texts ps ≡ tree.dict es
    → map_from found texts (ps ++ (tree.text k, v) ∷ []) ≡ tree.dict (tree.put k v es)
map_from-push [] found es true k v e = let same : found ≡ es = cc in ap (λ (f : tree.Entries). tree.dict (tree.put k v f)) same
map_from-push [] found es false k v e = absurd cc
map_from-push (p ∷ ps) found es texts k v e = map_from-push ps (keep_entry p.0 p.1 found) es (texts && is_text p.0) k v e

pub dict_begun : (has : List ℕ → Bool) (level : ℕ) (old : List Token) (before after : List ℕ) → ((q : List ℕ) → has q ≡ false) → after ≡ before ++ 0 ∷ [] → IsDictOpen has level old old before after 0
dict_begun has level old before after none e = record {
  found = json.no_members;
  turns = length old;
  enough = omega arith;
  read = refl;
  body = [];
  behind = e;
  pairs = [];
  spelled = refl;
  made = refl;
  ascending = tt;
  deep = none;
  counted = refl;
  shorter = omega arith;
}

pub dict_step : (has had : List ℕ → Bool) (fit : Fit) (k : List ℕ) (level count more : ℕ) (old now behind next : List Token) (before all keyed after : List ℕ) → IsDictOpen had level old now before all count
    → IsKeyAdded k now behind all keyed → IsValueAdded fit level behind next keyed after → length next < length behind → ((q : List ℕ) → has q ≡ cond (bytes_eq k q) (not (is_within fit)) (had q)) → more ≡ count + 1
    → IsDictOpen has level old next before after more
dict_step has had fit k level count more old now behind next before all keyed after h name v less noted e =
    let room = room_of level in
    let d = tree_of v.found in
    let es = members_tree h.found in
    let w = written_pruned fit room d keyed after v.written in
    let n = name.added.octets in
    let o = w.octets in
    let enough = h.enough in
    let shorter = h.shorter in
    let counted = h.counted in
    let key : read_key now ≡ Some (Some k, behind) = ap read_key name.read in
    let less_yet = read_key-shorter now (Some k) behind key in
    let all_behind : after ≡ all ++ (n ++ o) = w.behind ∙ ap (λ (l : List ℕ). l ++ o) name.added.behind ∙ append_assoc all n o in
    let put_so : members_tree (json.put k v.found h.found) ≡ tree.put k d es = members_tree-put k v.found h.found in
    record {
      found = json.put k v.found h.found;
      turns = h.turns - 1;
      enough = omega arith;
      read = h.read ∙ member_turn (value level) h.found h.turns k now behind next v.found (omega arith) key v.read;
      body = h.body ++ (n ++ o);
      behind = all_behind ∙ ap (λ (l : List ℕ). l ++ (n ++ o)) h.behind ∙ append_assoc before (0 ∷ h.body) (n ++ o);
      pairs = h.pairs ++ (tree.text k, pruned room d) ∷ [];
      spelled = one_more_pair (Spells room) h.body n o h.pairs (tree.text k, pruned room d) h.spelled (name.added.spelled room) w.spelled;
      made = map_from-push h.pairs tree.no_entries (pruned_entries room es) true k (pruned room d) h.made ∙ ap tree.dict (sym (pruned_entries-put room k d es) ∙ ap (pruned_entries room) (sym put_so));
      ascending = subst tree.IsAscending (sym put_so) (ascending-put k d es h.ascending);
      deep = λ q. noted q ∙ ap₂ (λ (a b : Bool). cond (bytes_eq k q) a b) (sym w.deeper) (h.deep q) ∙ sym (deep-put room k q d es) ∙ ap (is_deep_at room q) (sym put_so);
      counted = omega (arith, length-append h.pairs ((tree.text k, pruned room d) ∷ []));
      shorter = omega arith;
    }

-- a value that is none: there is no dictionary
pub dict_broken : (has : List ℕ → Bool) (k : List ℕ) (level count : ℕ) (old now behind : List Token) (before all keyed : List ℕ) → IsDictOpen has level old now before all count → IsKeyAdded k now behind all keyed
    → IsNoValue level behind → dict_read level old ≡ None
dict_broken has k level count old now behind before all keyed h name n =
    h.read ∙ member_none (value level) h.found h.turns k now behind (ap read_key name.read) n.none

read_over : (has : List ℕ → Bool) (level count : ℕ) (old now rest : List Token) (before all : List ℕ) (h : IsDictOpen has level old now before all count) → now ≡ Token.end_object ∷ rest
    → dict_read level old ≡ Some (h.found, rest)
read_over has level count old now rest before all h over = h.read ∙ members_over (value level) h.found h.turns now rest h.enough (ap read_key over)

pub dict_done : (has : List ℕ → Bool) (level count head : ℕ) (old now rest : List Token) (before all after : List ℕ) → IsDictOpen has level old now before all count → now ≡ Token.end_object ∷ rest → count < 2 ^ 32
    → head ≡ length before → 27 ≤ level → ((q : List ℕ) → has q ≡ false) → after ≡ take head all ++ (dict_head count ++ drop (head + 1) all) → IsDictAdded Within level old rest before after
dict_done has level count head old now rest before all after h over few at roomy none e =
    let room : room_of (suc level) ≡ suc (room_of level) = omega arith in
    let es = members_tree h.found in
    let octets = dict_head count ++ h.body in
    let whole : pruned_entries (room_of level) es ≡ es = none_deep (room_of level) es h.ascending (λ q. sym (h.deep q) ∙ none q) in
    record {
      found = h.found;
      read = read_over has level count old now rest before all h over;
      written = record {
        octets = octets;
        behind = headed head before all (dict_head count) h.body after at h.behind e;
        spelled = subst (λ r. Spells r octets (tree.dict es)) (sym room) (dict_spells (room_of level) count h.body h.pairs es h.counted few h.spelled (h.made ∙ ap tree.dict whole));
      };
    }

-- a dictionary becomes null that has no room, or whose value at a key is too deep
pub dict_cut : (has : List ℕ → Bool) (level count head : ℕ) (old now rest : List Token) (before all after : List ℕ) → IsDictOpen has level old now before all count → now ≡ Token.end_object ∷ rest
    → head ≡ length before → (level < 27) ⊎ ((q : List ℕ) × (has q ≡ true)) → after ≡ take head all ++ 192 ∷ [] → IsDictAdded TooDeep level old rest before after
dict_cut has level count head old now rest before all after h over at why e =
    let es = members_tree h.found in
    record {
      found = h.found;
      read = read_over has level count old now rest before all h over;
      written = record {
        deeper = ⊎_elim (λ (few : level < 27). omega arith) (λ (q : (q : List ℕ) × (has q ≡ true)). omega (arith, some_deep (room_of level) q.0 es (sym (h.deep q.0) ∙ q.1))) why;
        behind = nulled head before all h.body after at h.behind e;
      };
    }
