-- What is read where a token stands, and where none does.
use Rattle.std.proofs.Common.{◌≡◌, ◌-◌, ℕ, zero, suc, List, [], ◌∷◌, Bool, true, false, cond, ltb, ◌==◌, Ok, refl, sym, ap, ◌∙◌, subst, arith}
use denote.Ref.{Bor}
use Rattle.message_tree.specs.Data as tree
use Rattle.msgpack_codec.specs.declared.tokens.Token.{Token}
use Rattle.msgpack_codec.specs.declared.tokens.Token.TheVariants.{Null, Flag, Whole, Text, Bytes, List as ListOf, Dict as DictOf, Uncarried}
use Rattle.msgpack_codec.specs.Format.{form_of, marked_form}
use Rattle.msgpack_codec.specs.Values.{is_text}
use Rattle.msgpack_codec.specs.Written.{settled}
use Rattle.msgpack_codec.specs.Tokens.{BeginsWith, IsToken, IsNoToken}
use Rattle.msgpack_codec.specs.body.Tokens.{data_of, IsLeafToken}
use Rattle.msgpack_codec.specs.body.Decoder.{Found, size_at, leaf_at, nest_at, value_at, items_at, dict_at}
use Rattle.msgpack_codec.specs.body.Passing.{list_at}
use Rattle.msgpack_codec.proofs.ReadIsSpelled.{value_found, size_found, found-is, behind}
use Rattle.msgpack_canonical.specs.body.Kinds.{IsNoText}
use Rattle.msgpack_canonical.proofs.Dicts.{dict-no_text}
use Rattle.msgpack_canonical.proofs.Fronts.{leaf-read, list-read-inside, dict-read-inside, list-too_deep, dict-too_deep}

leaf-begins : (t : Token) (octets rest : List ℕ) → IsLeafToken t → IsToken t octets rest → BeginsWith (data_of t) octets rest × (settled (data_of t) ≡ data_of t)
leaf-begins Null octets rest leaf h = (h, refl)
leaf-begins (Flag b) octets rest leaf h = (h, refl)
leaf-begins (Whole z) octets rest leaf h = (h, refl)
leaf-begins (Text s) octets rest leaf h = (h, refl)
leaf-begins (Bytes s) octets rest leaf h = (h, refl)
leaf-begins (ListOf n) octets rest leaf h = absurd leaf
leaf-begins (DictOf n) octets rest leaf h = absurd leaf
leaf-begins Uncarried octets rest leaf h = (h, refl)

-- a value with nothing inside is what is read
pub leaf-token-read : (room : ℕ) (t : Token) (octets rest : List ℕ) → IsLeafToken t → IsToken t octets rest → value_at room octets ≡ Ok (data_of t, rest)
leaf-token-read room t octets rest leaf h =
    let b = leaf-begins t octets rest leaf h in
    leaf-read room octets (data_of t) rest b.1 b.0

-- ---- no key

leaf-no_key : (room : ℕ) (t : Token) (octets rest : List ℕ) → IsLeafToken t → IsToken t octets rest → is_text (data_of t) ≡ false → (k : tree.Data) (left : List ℕ) → value_at room octets ≡ Ok (k, left) → is_text k ≡ false
leaf-no_key room t octets rest leaf h nay k left e = ap is_text (sym (found-is (data_of t) k rest left (sym (leaf-token-read room t octets rest leaf h) ∙ e)).0) ∙ nay

list-no_text : (p : List ℕ → Found tree.Data) (n : ℕ) (octets : List ℕ) (k : tree.Data) (left : List ℕ) → list_at p n octets ≡ Ok (k, left) → is_text k ≡ false
unfolding list_at
list-no_text p n octets k left e =
    let b = behind (items_at p n tree.no_items octets) (λ ds. Ok (tree.list ds.0, ds.1)) (k, left) e in
    ap is_text (sym (found-is (tree.list b.value) k b.rest left b.after).0)

pub other-token : (room : ℕ) (t : Token) (octets rest : List ℕ) → IsNoText t → IsToken t octets rest → (k : tree.Data) (left : List ℕ) → value_at room octets ≡ Ok (k, left) → is_text k ≡ false
other-token room Null octets rest nay h k left e = leaf-no_key room Null octets rest tt h refl k left e
other-token room (Flag b) octets rest nay h k left e = leaf-no_key room (Flag b) octets rest tt h refl k left e
other-token room (Whole z) octets rest nay h k left e = leaf-no_key room (Whole z) octets rest tt h refl k left e
other-token room (Text s) octets rest nay h k left e = absurd nay
other-token room (Bytes s) octets rest nay h k left e = leaf-no_key room (Bytes s) octets rest tt h refl k left e
other-token zero (ListOf n) octets rest nay h k left e = absurd (list-too_deep n octets rest h k left e)
other-token (suc room) (ListOf n) octets rest nay h k left e = list-no_text (value_at (suc room - 1)) n rest k left (sym (list-read-inside (suc room) n octets rest (omega arith) h) ∙ e)
other-token zero (DictOf n) octets rest nay h k left e = absurd (dict-too_deep n octets rest h k left e)
other-token (suc room) (DictOf n) octets rest nay h k left e = dict-no_text (value_at (suc room - 1)) n tree.no_entries true rest k left (sym (dict-read-inside (suc room) n octets rest (omega arith) h) ∙ e)
other-token room Uncarried octets rest nay h k left e = leaf-no_key room Uncarried octets rest tt h refl k left e

-- ---- no token

-- a form of which nothing is read, if it is the first octet's
abbrev Refuses : {F : Type 0} → (F → Found tree.Data) → tree.Data → List ℕ → F → F → Type 0
Refuses nest d rest first form = first ≡ form → nest form ≡ Ok (d, rest) → ⊥

either : {F : Type 0} (nest : F → Found tree.Data) (d : tree.Data) (rest : List ℕ) (first : F) (b : Bool) (one other : F) → Refuses nest d rest first one → Refuses nest d rest first other → Refuses nest d rest first (cond b one other)
either nest d rest first true one other p q = p
either nest d rest first false one other p q = q

leaf-refused : {F : Type 0} (of : F → Found tree.Data) (nest : F → Found tree.Data) (d : tree.Data) (rest : List ℕ) (first : F) → (of first ≡ Ok (d, rest) → ⊥) → (form : F) → nest form ≡ of form → Refuses nest d rest first form
leaf-refused of nest d rest first nay form same is e = nay (ap of is ∙ (sym same ∙ e))

no-leaf : (c : ℕ) (o : List ℕ) → IsNoToken (c ∷ o) → (d : tree.Data) (rest : List ℕ) → leaf_at (form_of c) o ≡ Ok (d, rest) → ⊥
unfolding value_at
no-leaf c o none d rest e = none.no_leaf d rest (value_found zero (c ∷ o) d rest e)

-- no value is read where no token stands, whatever the first octet is
marked-unread : (p : List ℕ → Found tree.Data) (c : ℕ) (o : List ℕ) → IsNoToken (c ∷ o) → (d : tree.Data) (rest : List ℕ) → Refuses (λ form. nest_at p form o) d rest (form_of c) (marked_form c)
unfolding nest_at list_at
marked-unread p c o none d rest =
    let choose = either (λ form. nest_at p form o) d rest (form_of c) in
    let leaf = leaf-refused (λ form. leaf_at form o) (λ form. nest_at p form o) d rest (form_of c) (no-leaf c o none d rest) in
    (choose (c == 192) _ _
    (leaf _ refl) (choose (c == 194) _ _
    (leaf _ refl) (choose (c == 195) _ _
    (leaf _ refl) (choose (c == 196) _ _
    (leaf _ refl) (choose (c == 197) _ _
    (leaf _ refl) (choose (c == 198) _ _
    (leaf _ refl) (choose (c == 199) _ _
    (leaf _ refl) (choose (c == 200) _ _
    (leaf _ refl) (choose (c == 201) _ _
    (leaf _ refl) (choose (c == 202) _ _
    (leaf _ refl) (choose (c == 203) _ _
    (leaf _ refl) (choose (c == 204) _ _
    (leaf _ refl) (choose (c == 205) _ _
    (leaf _ refl) (choose (c == 206) _ _
    (leaf _ refl) (choose (c == 207) _ _
    (leaf _ refl) (choose (c == 208) _ _
    (leaf _ refl) (choose (c == 209) _ _
    (leaf _ refl) (choose (c == 210) _ _
    (leaf _ refl) (choose (c == 211) _ _
    (leaf _ refl) (choose (c == 212) _ _
    (leaf _ refl) (choose (c == 213) _ _
    (leaf _ refl) (choose (c == 214) _ _
    (leaf _ refl) (choose (c == 215) _ _
    (leaf _ refl) (choose (c == 216) _ _
    (leaf _ refl) (choose (c == 217) _ _
    (leaf _ refl) (choose (c == 218) _ _
    (leaf _ refl) (choose (c == 219) _ _
    (leaf _ refl) (choose (c == 220) _ _
    (λ is e. let b = behind (size_at _ o) (λ n. list_at p n.0 n.1) (d, rest) e in let s = size_found _ o b.value b.rest b.first in none.no_list b.value b.rest (c, _, s.0, ap (λ x. c ∷ x) s.1, is, s.2)) (choose (c == 221) _ _
    (λ is e. let b = behind (size_at _ o) (λ n. list_at p n.0 n.1) (d, rest) e in let s = size_found _ o b.value b.rest b.first in none.no_list b.value b.rest (c, _, s.0, ap (λ x. c ∷ x) s.1, is, s.2)) (choose (c == 222) _ _
    (λ is e. let b = behind (size_at _ o) (λ n. dict_at p n.0 tree.no_entries true n.1) (d, rest) e in let s = size_found _ o b.value b.rest b.first in none.no_dict b.value b.rest (c, _, s.0, ap (λ x. c ∷ x) s.1, is, s.2)) (choose (c == 223) _ _
    (λ is e. let b = behind (size_at _ o) (λ n. dict_at p n.0 tree.no_entries true n.1) (d, rest) e in let s = size_found _ o b.value b.rest b.first in none.no_dict b.value b.rest (c, _, s.0, ap (λ x. c ∷ x) s.1, is, s.2)) (leaf _ refl))))))))))))))))))))))))))))))))

unread-inside : (p : List ℕ → Found tree.Data) (c : ℕ) (o : List ℕ) → IsNoToken (c ∷ o) → (d : tree.Data) (rest : List ℕ) → Refuses (λ form. nest_at p form o) d rest (form_of c) (form_of c)
unfolding form_of nest_at list_at
unread-inside p c o none d rest =
    let choose = either (λ form. nest_at p form o) d rest (form_of c) in
    let leaf = leaf-refused (λ form. leaf_at form o) (λ form. nest_at p form o) d rest (form_of c) (no-leaf c o none d rest) in
    (choose (ltb c 128) _ _
    (leaf _ refl) (choose (ltb c 144) _ _
    (λ is e. let b = behind (size_at _ o) (λ n. dict_at p n.0 tree.no_entries true n.1) (d, rest) e in let s = size_found _ o b.value b.rest b.first in none.no_dict b.value b.rest (c, _, s.0, ap (λ x. c ∷ x) s.1, is, s.2)) (choose (ltb c 160) _ _
    (λ is e. let b = behind (size_at _ o) (λ n. list_at p n.0 n.1) (d, rest) e in let s = size_found _ o b.value b.rest b.first in none.no_list b.value b.rest (c, _, s.0, ap (λ x. c ∷ x) s.1, is, s.2)) (choose (ltb c 192) _ _
    (leaf _ refl) (choose (ltb c 224) _ _ (marked-unread p c o none d rest) (leaf _ refl))))))

nothing-read : (room : ℕ) (d : tree.Data) (rest : List ℕ) → value_at room [] ≡ Ok (d, rest) → ⊥
unfolding value_at
nothing-read zero d rest e = cc
nothing-read (suc room) d rest e = cc

pub no-token : (room : ℕ) (octets : List ℕ) → IsNoToken octets → (d : tree.Data) (rest : List ℕ) → value_at room octets ≡ Ok (d, rest) → ⊥
unfolding value_at
no-token room [] none d rest e = nothing-read room d rest e
no-token zero (c ∷ o) none d rest e = no-leaf c o none d rest e
no-token (suc room) (c ∷ o) none d rest e = unread-inside (value_at room) c o none d rest refl e

pub text-token-read : (room : ℕ) (t : Token) (s : Bor (List ℕ)) (octets rest : List ℕ) → t ≡ Text s → IsToken t octets rest → value_at room octets ≡ Ok (tree.text s.now, rest)
text-token-read room t s octets rest is h = leaf-token-read room (Text s) octets rest tt (subst (λ x. IsToken x octets rest) is h)
