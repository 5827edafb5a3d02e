-- Whole numbers at the front of octets.
use Rattle.std.proofs.Common.{◌≡◌, ◌-◌, ◌&&◌, ℕ, ℤ, zero, suc, List, Bool, true, false, Ok, refl, sym, ◌∙◌, subst, arith}
use Rattle.message_tree.specs.Data as tree
use Rattle.msgpack_codec.specs.Values.{keep_entry, is_text}
use Rattle.msgpack_codec.specs.body.Decoder.{◌>>=◌, Found, items_at, dict_at, value_at}
use Rattle.msgpack_codec.specs.body.Passing.{list_at}
use Rattle.msgpack_codec.proofs.ReadIsSpelled.{found-is, behind}
use Rattle.msgpack_codec.specs.Tokens.{IsToken}
use Rattle.msgpack_codec.specs.body.Tokens.{data_of, IsLeafToken}
use Rattle.msgpack_codec.specs.declared.tokens.Token.{Token}
use Rattle.msgpack_codec.specs.declared.tokens.Token.TheVariants as tokens
use Rattle.msgpack_canonical.proofs.Fronts.{list-read-inside, dict-read-inside, list-too_deep, dict-too_deep}
use Rattle.msgpack_canonical.proofs.Tokens.{leaf-token-read}

pub whole-read : (room : ℕ) (t : Token) (z : ℤ) (octets rest : List ℕ) → t ≡ tokens.Whole z → IsToken t octets rest → value_at room octets ≡ Ok (tree.whole z, rest)
whole-read room t z octets rest is h = leaf-token-read room (tokens.Whole z) octets rest tt (subst (λ x. IsToken x octets rest) is h)

leaf-no-whole : (room : ℕ) (t : Token) (octets rest : List ℕ) → IsLeafToken t → IsToken t octets rest → (z : ℤ) (left : List ℕ) → (data_of t ≡ tree.whole z → ⊥) → value_at room octets ≡ Ok (tree.whole z, left) → ⊥
leaf-no-whole room t octets rest leaf h z left nay e = nay (found-is (data_of t) (tree.whole z) rest left (sym (leaf-token-read room t octets rest leaf h) ∙ e)).0

list-no-whole : (p : List ℕ → Found tree.Data) (n : ℕ) (octets : List ℕ) (z : ℤ) (left : List ℕ) → list_at p n octets ≡ Ok (tree.whole z, left) → ⊥
unfolding list_at
list-no-whole p n octets z left e =
    let b = behind (items_at p n tree.no_items octets) (λ ds. Ok (tree.list ds.0, ds.1)) (tree.whole z, left) e in
    let is = (found-is (tree.list b.value) (tree.whole z) b.rest left b.after).0 in
    cc

dict-no-whole : (p : List ℕ → Found tree.Data) (n : ℕ) (found : tree.Entries) (b : Bool) (octets : List ℕ) (z : ℤ) (rest : List ℕ) → dict_at p n found b octets ≡ Ok (tree.whole z, rest) → ⊥
unfolding dict_at
dict-no-whole p zero found true octets z rest e = let is = (found-is (tree.dict found) (tree.whole z) octets rest e).0 in cc
dict-no-whole p zero found false octets z rest e = let is = (found-is tree.uncarried (tree.whole z) octets rest e).0 in cc
dict-no-whole p (suc n) found b octets z rest e =
    let k = behind (p octets) (λ k. p k.1 >>= λ v. dict_at p n (keep_entry k.0 v.0 found) (b && is_text k.0) v.1) (tree.whole z, rest) e in
    let v = behind (p k.rest) (λ v. dict_at p n (keep_entry k.value v.0 found) (b && is_text k.value) v.1) (tree.whole z, rest) k.after in
    dict-no-whole p n (keep_entry k.value v.value found) (b && is_text k.value) v.rest z rest v.after

pub other-whole : (room : ℕ) (t : Token) (z : ℤ) (octets rest left : List ℕ) → ((y : ℤ) → t ≡ tokens.Whole y → ⊥) → IsToken t octets rest → value_at room octets ≡ Ok (tree.whole z, left) → ⊥
other-whole room tokens.Null z octets rest left nay h e = leaf-no-whole room tokens.Null octets rest tt h z left (λ is. cc) e
other-whole room (tokens.Flag b) z octets rest left nay h e = leaf-no-whole room (tokens.Flag b) octets rest tt h z left (λ is. cc) e
other-whole room (tokens.Whole y) z octets rest left nay h e = nay y refl
other-whole room (tokens.Text s) z octets rest left nay h e = leaf-no-whole room (tokens.Text s) octets rest tt h z left (λ is. cc) e
other-whole room (tokens.Bytes s) z octets rest left nay h e = leaf-no-whole room (tokens.Bytes s) octets rest tt h z left (λ is. cc) e
other-whole zero (tokens.List n) z octets rest left nay h e = list-too_deep n octets rest h (tree.whole z) left e
other-whole (suc room) (tokens.List n) z octets rest left nay h e = list-no-whole (value_at (suc room - 1)) n rest z left (sym (list-read-inside (suc room) n octets rest (omega arith) h) ∙ e)
other-whole zero (tokens.Dict n) z octets rest left nay h e = dict-too_deep n octets rest h (tree.whole z) left e
other-whole (suc room) (tokens.Dict n) z octets rest left nay h e = dict-no-whole (value_at (suc room - 1)) n tree.no_entries true rest z left (sym (dict-read-inside (suc room) n octets rest (omega arith) h) ∙ e)
other-whole room tokens.Uncarried z octets rest left nay h e = leaf-no-whole room tokens.Uncarried octets rest tt h z left (λ is. cc) e
