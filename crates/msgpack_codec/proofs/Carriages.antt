-- What can be told of members, one after the other.
use Rattle.std.proofs.Common.{◌≡◌, ℕ, Bool, ◌&&◌, List, Option, Some, refl, sym, ap, ◌∙◌}
use Rattle.std.proofs.Math.Bool.{and-true, and_assoc}
use Rattle.message_tree.specs.Data as tree
use Rattle.msgpack_codec.specs.Values.{is_text}
use Rattle.msgpack_codec.specs.Written.{add_entry, keys_ascend, worse, carriage_of, items_carriage, entries_carriage}
use Rattle.msgpack_codec.specs.body.Decoder.{push_item}
use Rattle.msgpack_codec.specs.body.Passing.{text_of, last_key, is_next, AreKnown}
use Rattle.msgpack_codec.specs.declared.carriage.Carriage.{Carriage}
use Rattle.msgpack_codec.specs.declared.carriage.Carriage.TheVariants.{Carried, Unsure, Uncarried}

worse-carried : (a : Carriage) → worse a Carried ≡ a
worse-carried Carried = refl
worse-carried Unsure = refl
worse-carried Uncarried = refl

worse-worse : (a b c : Carriage) → worse a (worse b c) ≡ worse (worse a b) c
worse-worse Carried b c = refl
worse-worse Unsure Carried c = refl
worse-worse Unsure Unsure Carried = refl
worse-worse Unsure Unsure Unsure = refl
worse-worse Unsure Unsure Uncarried = refl
worse-worse Unsure Uncarried c = refl
worse-worse Uncarried b c = refl

pub items_carriage-push : (ds : tree.Items) (d : tree.Data) → items_carriage (push_item ds d) ≡ worse (items_carriage ds) (carriage_of d)
items_carriage-push tree.no_items d = worse-carried (carriage_of d)
items_carriage-push (tree.item x ds) d = ap (worse (carriage_of x)) (items_carriage-push ds d) ∙ worse-worse (carriage_of x) (items_carriage ds) (carriage_of d)

-- one more entry behind others
abbrev behind : tree.Entries → List ℕ → tree.Data → tree.Entries
behind es k d = tree.joined es (tree.entry k d tree.no_entries)

entries_carriage-behind : (es : tree.Entries) (k : List ℕ) (d : tree.Data) → entries_carriage (behind es k d) ≡ worse (entries_carriage es) (carriage_of d)
entries_carriage-behind tree.no_entries k d = worse-carried (carriage_of d)
entries_carriage-behind (tree.entry l e es) k d = ap (worse (carriage_of e)) (entries_carriage-behind es k d) ∙ worse-worse (carriage_of e) (entries_carriage es) (carriage_of d)

last_key-behind : (es : tree.Entries) (k : List ℕ) (d : tree.Data) → last_key (behind es k d) ≡ Some k
last_key-behind tree.no_entries k d = refl
last_key-behind (tree.entry l e tree.no_entries) k d = refl
last_key-behind (tree.entry l e (tree.entry m f es)) k d = last_key-behind (tree.entry m f es) k d

keys_ascend-behind : (es : tree.Entries) (k : List ℕ) (d : tree.Data) → keys_ascend (behind es k d) ≡ (keys_ascend es && is_next (last_key es) k)
keys_ascend-behind tree.no_entries k d = refl
keys_ascend-behind (tree.entry l e tree.no_entries) k d = and-true (is_next (Some l) k)
keys_ascend-behind (tree.entry l e (tree.entry m f es)) k d =
    ap (λ b. is_next (Some l) m && b) (keys_ascend-behind (tree.entry m f es) k d) ∙ sym (and_assoc (is_next (Some l) m) (keys_ascend (tree.entry m f es)) (is_next (last_key (tree.entry m f es)) k))

-- a key that is a text is known with its value
pub known_text : (texts ascend before : Bool) (last : Option (List ℕ)) (carriage c : Carriage) (found : tree.Entries) (all : Bool) (s : List ℕ) (k v : tree.Data)
    → AreKnown texts ascend last carriage found all → Some s ≡ text_of k → c ≡ carriage_of v → before ≡ (ascend && is_next last s)
    → AreKnown texts before (Some s) (worse carriage c) (add_entry k v found) (all && is_text k)
known_text texts ascend before last carriage c found all s tree.null v h t e b = absurd cc
known_text texts ascend before last carriage c found all s (tree.flag x) v h t e b = absurd cc
known_text texts ascend before last carriage c found all s (tree.whole z) v h t e b = absurd cc
known_text texts ascend before last carriage c found all s (tree.text k) v h t e b =
    let same : s ≡ k = cc in
    record {
      texts_are = h.texts_are ∙ sym (and-true all);
      ascend_is = b ∙ (rw (h.ascend_is, h.last_is, same) (sym (keys_ascend-behind found k v)));
      last_is = ap Some same ∙ sym (last_key-behind found k v);
      carriage_is = rw (h.carriage_is, e) (sym (entries_carriage-behind found k v));
    }
known_text texts ascend before last carriage c found all s (tree.bytes x) v h t e b = absurd cc
known_text texts ascend before last carriage c found all s (tree.list ds) v h t e b = absurd cc
known_text texts ascend before last carriage c found all s (tree.dict ms) v h t e b = absurd cc
known_text texts ascend before last carriage c found all s tree.uncarried v h t e b = absurd cc
