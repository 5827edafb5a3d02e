-- The entries of a dictionary, one more at a time.
use Rattle.std.proofs.Common.{◌≡◌, ℕ, zero, suc, List, Bool, true, false, ◌&&◌, cond, Ok, refl, sym, ap, ◌∙◌}
use Rattle.message_tree.specs.Data as tree
use Rattle.msgpack_codec.specs.Values.{keep_entry, is_text}
use Rattle.msgpack_codec.specs.body.Decoder.{◌>>=◌, Found, dict_at}
use Rattle.msgpack_codec.proofs.ReadIsSpelled.{found-is, behind}
use Rattle.msgpack_canonical.specs.body.Fitting.{IsUnread}
use Rattle.msgpack_canonical.specs.body.Entries.{IsNoEntry}

-- ---- dictionaries

map-no_text : (texts : Bool) (es : tree.Entries) → is_text (cond texts (tree.dict es) tree.uncarried) ≡ false
map-no_text true es = refl
map-no_text false es = refl

pub dict-no_text : (p : List ℕ → Found tree.Data) (n : ℕ) (found : tree.Entries) (texts : Bool) (octets : List ℕ) (d : tree.Data) (rest : List ℕ) → dict_at p n found texts octets ≡ Ok (d, rest) → is_text d ≡ false
unfolding dict_at
dict-no_text p zero found texts octets d rest e = ap is_text (sym (found-is (cond texts (tree.dict found) tree.uncarried) d octets rest e).0) ∙ map-no_text texts found
dict-no_text p (suc n) found texts octets d rest e =
    let k = behind (p octets) (λ k. p k.1 >>= λ v. dict_at p n (keep_entry k.0 v.0 found) (texts && is_text k.0) v.1) (d, rest) e in
    let v = behind (p k.rest) (λ v. dict_at p n (keep_entry k.value v.0 found) (texts && is_text k.value) v.1) (d, rest) k.after in
    dict-no_text p n (keep_entry k.value v.value found) (texts && is_text k.value) v.rest d rest v.after

-- where no key or no value is read, no dictionary is
pub key-unread : (p : List ℕ → Found tree.Data) (octets : List ℕ) → IsUnread (p octets) → IsNoEntry p octets
unfolding dict_at
key-unread p octets nay n found texts d rest e =
    let k = behind (p octets) (λ k. p k.1 >>= λ v. dict_at p n (keep_entry k.0 v.0 found) (texts && is_text k.0) v.1) (d, rest) e in
    nay k.value k.rest k.first

pub value-unread : (p : List ℕ → Found tree.Data) (octets : List ℕ) (key : tree.Data) (middle : List ℕ) → p octets ≡ Ok (key, middle) → IsUnread (p middle) → IsNoEntry p octets
unfolding dict_at
value-unread p octets key middle read nay n found texts d rest e =
    let k = behind (p octets) (λ k. p k.1 >>= λ v. dict_at p n (keep_entry k.0 v.0 found) (texts && is_text k.0) v.1) (d, rest) e in
    let same = found-is key k.value middle k.rest (sym read ∙ k.first) in
    let v = behind (p k.rest) (λ v. dict_at p n (keep_entry k.value v.0 found) (texts && is_text k.value) v.1) (d, rest) k.after in
    nay v.value v.rest (ap p same.1 ∙ v.first)

-- a key that is no text takes no place
pub keep_entry-none : (k v : tree.Data) (es : tree.Entries) → is_text k ≡ false → keep_entry k v es ≡ es
keep_entry-none tree.null v es nay = refl
keep_entry-none (tree.flag b) v es nay = refl
keep_entry-none (tree.whole z) v es nay = refl
keep_entry-none (tree.text s) v es nay = absurd cc
keep_entry-none (tree.bytes b) v es nay = refl
keep_entry-none (tree.list ds) v es nay = refl
keep_entry-none (tree.dict ms) v es nay = refl
keep_entry-none tree.uncarried v es nay = refl
