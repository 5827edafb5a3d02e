-- A loop over the pairs of a map as they are written, and what a list is once its items are read.
use Rattle.std.proofs.Common.{◌≡◌, ℕ, zero, suc, ◌-◌, ◌<◌, List, ◌∷◌, Bool, true, false, ◌&&◌, None, Ok, Err, cond, refl, arith, sub-one}
use Rattle.message_tree.specs.Data as tree
use Rattle.msgpack_codec.specs.declared.fault.Fault.{Fault}
use Rattle.msgpack_codec.specs.body.Decoder.{Found, items_at, leaf_at}
use Rattle.msgpack_codec.specs.body.Passing.{pairs_at, list_at, written_nest_at, written_at, text_of}
use Rattle.msgpack_codec.specs.Format.{form_of}
use Rattle.msgpack_codec.specs.Values.{is_text}
use Rattle.msgpack_codec.specs.Written.{add_entry}

pub list-read : (value : List ℕ → Found tree.Data) (n : ℕ) (octets : List ℕ) (ds : tree.Items) (rest : List ℕ) → items_at value n tree.no_items octets ≡ Ok (ds, rest) → list_at value n octets ≡ Ok (tree.list ds, rest)
unfolding list_at
list-read value n octets ds rest read = rw read refl

pub list-refused : (value : List ℕ → Found tree.Data) (n : ℕ) (octets : List ℕ) (fault : Fault) → items_at value n tree.no_items octets ≡ Err fault → list_at value n octets ≡ Err fault
unfolding list_at
list-refused value n octets fault refused = rw refused refl

pub pair-read : (value : List ℕ → Found tree.Data) (n : ℕ) (found : tree.Entries) (texts : Bool) (octets : List ℕ) (k v : tree.Data) (middle after : List ℕ) → value octets ≡ Ok (k, middle) → value middle ≡ Ok (v, after)
    → pairs_at value n (add_entry k v found) (texts && is_text k) after ≡ pairs_at value (suc n) found texts octets
unfolding pairs_at
pair-read value n found texts octets k v middle after key read = rw (key, read) refl

pub key-refused : (value : List ℕ → Found tree.Data) (n : ℕ) (found : tree.Entries) (texts : Bool) (octets : List ℕ) (fault : Fault) → value octets ≡ Err fault → Err fault ≡ pairs_at value (suc n) found texts octets
unfolding pairs_at
key-refused value n found texts octets fault refused = rw refused refl

pub pair-refused : (value : List ℕ → Found tree.Data) (n : ℕ) (found : tree.Entries) (texts : Bool) (octets : List ℕ) (k : tree.Data) (middle : List ℕ) (fault : Fault) → value octets ≡ Ok (k, middle) → value middle ≡ Err fault
    → Err fault ≡ pairs_at value (suc n) found texts octets
unfolding pairs_at
pair-refused value n found texts octets k middle fault key refused = rw (key, refused) refl

pub pairs-read : (value : List ℕ → Found tree.Data) (found : tree.Entries) (texts : Bool) (octets : List ℕ) → Ok (cond texts (tree.dict found) tree.uncarried, octets) ≡ pairs_at value zero found texts octets
unfolding pairs_at
pairs-read value found texts octets = refl

-- a value that may nest
pub written-nests : (room c : ℕ) (octets : List ℕ) → 0 < room → written_at room (c ∷ octets) ≡ written_nest_at (written_at (room - 1)) (form_of c) octets
unfolding written_at
written-nests zero c octets some = absurd (omega arith)
written-nests (suc room) c octets some = rw sub-one refl

-- and one that may not
pub written-leaf : (room c : ℕ) (octets : List ℕ) → room ≡ 0 → written_at room (c ∷ octets) ≡ leaf_at (form_of c) octets
unfolding written_at
written-leaf zero c octets none = refl
written-leaf (suc room) c octets none = absurd (omega arith)

-- a map is no text
pub map-no_text : (texts : Bool) (es : tree.Entries) → None ≡ text_of (cond texts (tree.dict es) tree.uncarried)
map-no_text true es = refl
map-no_text false es = refl
