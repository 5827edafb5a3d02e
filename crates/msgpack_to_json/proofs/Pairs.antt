-- The members that are passed over, one after the other, and the dictionary that pairs make.
use Rattle.std.proofs.Common.{◌≡◌, ℕ, zero, suc, Bool, true, false, ◌&&◌, true≢false, List, [], ◌∷◌, length, if◌then◌else◌, Ok, refl, sym, ap, ◌∙◌, subst}
use Rattle.message_tree.specs.Data.{Data, null, flag, whole, text, bytes, list, dict, uncarried, Items, no_items, item, Entries, no_entries, entry, joined, is_carried}
use Rattle.message_tree.specs.View.{items_of}
use Rattle.message_tree.proofs.Lemmas.{joined-none}
use Rattle.msgpack_codec.specs.Values.{is_text}
use Rattle.msgpack_codec.specs.Written.{map_written, add_entry}
use Rattle.msgpack_codec.specs.body.Decoder.{◌>>=◌, Found, push_item, items_at}
use Rattle.msgpack_codec.specs.body.Passing.{pairs_at, list_at}
use Rattle.msgpack_codec.proofs.ReadIsSpelled.{found-is, behind}
use Rattle.msgpack_to_json.specs.body.Members.{AreAt, ArePairsAt, are_texts, entries_of}

-- ---- lists

abbrev behind_items : Items → Items → Items
behind_items no_items others = others
behind_items (item d ds) others = item d (behind_items ds others)

behind-push : (found : Items) (d : Data) (others : Items) → behind_items (push_item found d) others ≡ behind_items found (item d others)
behind-push no_items d others = refl
behind-push (item e es) d others = ap (item e) (behind-push es d others)

behind-none : (found : Items) → behind_items found no_items ≡ found
behind-none no_items = refl
behind-none (item d ds) = ap (item d) (behind-none ds)

items-each : (value : List ℕ → Found Data) (n : ℕ) (found : Items) (octets : List ℕ) (all : Items) (after : List ℕ) → items_at value n found octets ≡ Ok (all, after)
    → (ds : List Data) × AreAt value octets ds after × (length ds ≡ n) × (all ≡ behind_items found (items_of ds))
unfolding items_at
items-each value zero found octets all after e =
    let same = found-is found all octets after e in
    ([], same.1, refl, sym same.0 ∙ sym (behind-none found))
items-each value (suc n) found octets all after e =
    let b = behind (value octets) (λ d. items_at value n (push_item found d.0) d.1) (all, after) e in
    let more = items-each value n (push_item found b.value) b.rest all after b.after in
    (b.value ∷ more.0, (b.rest, b.first, more.1), ap suc more.2, more.3 ∙ behind-push found b.value (items_of more.0))

pub list-each : (value : List ℕ → Found Data) (n : ℕ) (octets : List ℕ) (d : Data) (after : List ℕ) → list_at value n octets ≡ Ok (d, after)
    → (ds : List Data) × AreAt value octets ds after × (length ds ≡ n) × (d ≡ list (items_of ds))
unfolding list_at
list-each value n octets d after e =
    let b = behind (items_at value n no_items octets) (λ ds. Ok (list ds.0, ds.1)) (d, after) e in
    let same = found-is (list b.value) d b.rest after b.after in
    let more = items-each value n no_items octets b.value b.rest b.first in
    (more.0, subst (λ r. AreAt value octets more.0 r) same.1 more.1, more.2, sym same.0 ∙ ap list more.3)

-- ---- dictionaries

no-map : (found : Entries) (ps : List (Data × Data)) → map_written found false ps ≡ uncarried
no-map found [] = refl
no-map found (p ∷ ps) = no-map (add_entry p.0 p.1 found) ps

joined-entry : (a : Entries) (k : List ℕ) (v : Data) (b : Entries) → joined (joined a (entry k v no_entries)) b ≡ joined a (entry k v b)
joined-entry no_entries k v b = refl
joined-entry (entry l d a) k v b = ap (entry l d) (joined-entry a k v b)

not-carried : (found : Entries) (ps : List (Data × Data)) → is_carried (map_written found false ps) ≡ true → ⊥
not-carried found ps carried = true≢false (sym carried ∙ ap is_carried (no-map found ps))

-- each key of a carried dictionary is a text, and its pairs stand behind others in their order
map-is : (found : Entries) (ps : List (Data × Data)) → is_carried (map_written found true ps) ≡ true
    → (are_texts ps ≡ true) × (map_written found true ps ≡ dict (joined found (entries_of ps)))
map-is found [] carried = (refl, ap dict (sym (joined-none found)))
map-is found ((text k, v) ∷ ps) carried =
    let more = map-is (joined found (entry k v no_entries)) ps carried in
    (more.0, more.1 ∙ ap dict (joined-entry found k v (entries_of ps)))
map-is found ((null, v) ∷ ps) carried = absurd (not-carried found ps carried)
map-is found ((flag b, v) ∷ ps) carried = absurd (not-carried found ps carried)
map-is found ((whole z, v) ∷ ps) carried = absurd (not-carried found ps carried)
map-is found ((bytes b, v) ∷ ps) carried = absurd (not-carried found ps carried)
map-is found ((list ds, v) ∷ ps) carried = absurd (not-carried found ps carried)
map-is found ((dict es, v) ∷ ps) carried = absurd (not-carried found ps carried)
map-is found ((uncarried, v) ∷ ps) carried = absurd (not-carried found ps carried)

pairs-each : (value : List ℕ → Found Data) (n : ℕ) (found : Entries) (texts : Bool) (octets : List ℕ) (d : Data) (after : List ℕ) → pairs_at value n found texts octets ≡ Ok (d, after)
    → (ps : List (Data × Data)) × ArePairsAt value octets ps after × (length ps ≡ n) × (d ≡ map_written found texts ps)
unfolding pairs_at
pairs-each value zero found texts octets d after e =
    let same = found-is (if texts then dict found else uncarried) d octets after e in
    ([], same.1, refl, sym same.0)
pairs-each value (suc n) found texts octets d after e =
    let b = behind (value octets) (λ k. value k.1 >>= λ v. pairs_at value n (add_entry k.0 v.0 found) (texts && is_text k.0) v.1) (d, after) e in
    let c = behind (value b.rest) (λ v. pairs_at value n (add_entry b.value v.0 found) (texts && is_text b.value) v.1) (d, after) b.after in
    let more = pairs-each value n (add_entry b.value c.value found) (texts && is_text b.value) c.rest d after c.after in
    ((b.value, c.value) ∷ more.0, (b.rest, c.rest, b.first, c.first, more.1), ap suc more.2, more.3)

pub dict-each : (value : List ℕ → Found Data) (n : ℕ) (octets : List ℕ) (d : Data) (after : List ℕ) → pairs_at value n no_entries true octets ≡ Ok (d, after) → is_carried d ≡ true
    → (ps : List (Data × Data)) × ArePairsAt value octets ps after × (length ps ≡ n) × (are_texts ps ≡ true) × (d ≡ dict (entries_of ps))
dict-each value n octets d after e carried =
    let more = pairs-each value n no_entries true octets d after e in
    let map = map-is no_entries more.0 (ap is_carried (sym more.3) ∙ carried) in
    (more.0, more.1, more.2, map.0, more.3 ∙ map.1)
