-- What stands at the front of octets is what is read of them.
use Rattle.std.proofs.Common.{◌≡◌, ◌-◌, ◌<◌, ℕ, zero, suc, List, [], ◌∷◌, ◌++◌, true, Ok, Err, refl, sym, ap, ◌∙◌}
use Rattle.message_tree.specs.Data as tree
use Rattle.msgpack_codec.specs.declared.tokens.Token.TheVariants.{List as ListOf, Dict as DictOf}
use Rattle.msgpack_codec.specs.declared.fault.Fault.TheVariants.{TooDeep}
use Rattle.msgpack_codec.specs.Format.{form_of}
use Rattle.msgpack_codec.specs.Written.{settled}
use Rattle.msgpack_codec.specs.Tokens.{BeginsWith, IsToken}
use Rattle.msgpack_codec.specs.body.Decoder.{◌>>=◌, size_at, leaf_at, nest_at, value_at, dict_at}
use Rattle.msgpack_codec.specs.body.Passing.{list_at, written_at}
use Rattle.msgpack_codec.proofs.SpelledIsRead.{value_again, size_again, then_ok}
use Rattle.msgpack_codec.proofs.NestJudgements.{nest-of-leaf}
use Rattle.msgpack_codec.proofs.WrittenIsRead.{as_settled, value_settles}
use Rattle.msgpack_codec.proofs.Loops.{value-nests}

-- ---- a value with nothing inside

leaf-written : (room c : ℕ) (o : List ℕ) (d : tree.Data) (rest : List ℕ) → value_at zero (c ∷ o) ≡ Ok (d, rest) → written_at (suc room) (c ∷ o) ≡ Ok (d, rest)
unfolding value_at written_at
leaf-written room c o d rest e = nest-of-leaf (written_at room) (form_of c) o d rest e ∙ e

nothing-read : (d : tree.Data) (rest : List ℕ) → value_at zero [] ≡ Ok (d, rest) → ⊥
unfolding value_at
nothing-read d rest e = cc

leaf-deeper : (room : ℕ) (octets : List ℕ) (d : tree.Data) (rest : List ℕ) → settled d ≡ d → value_at zero octets ≡ Ok (d, rest) → value_at room octets ≡ Ok (d, rest)
leaf-deeper zero octets d rest same e = e
leaf-deeper (suc room) [] d rest same e = absurd (nothing-read d rest e)
leaf-deeper (suc room) (c ∷ o) d rest same e =
    value_settles (suc room) (c ∷ o) ∙ (ap as_settled (leaf-written room c o d rest e) ∙ ap (λ (x : tree.Data). Ok (x, rest)) same)

pub leaf-read : (room : ℕ) (octets : List ℕ) (d : tree.Data) (rest : List ℕ) → settled d ≡ d → BeginsWith d octets rest → value_at room octets ≡ Ok (d, rest)
leaf-read room octets d rest same h = leaf-deeper room octets d rest same (ap (value_at zero) h.1 ∙ value_again zero h.0 d rest h.2)

-- ---- the head of a list or dictionary

pub list-read-inside : (room n : ℕ) (octets rest : List ℕ) → 0 < room → IsToken (ListOf n) octets rest → value_at room octets ≡ list_at (value_at (room - 1)) n rest
unfolding nest_at list_at
list-read-inside room n octets rest some h =
    let opens : nest_at (value_at (room - 1)) (form_of h.0) (h.2 ++ rest) ≡ (size_at h.1 (h.2 ++ rest) >>= λ n. list_at (value_at (room - 1)) n.0 n.1) = rw h.4 refl in
    ap (value_at room) h.3 ∙ (value-nests room h.0 (h.2 ++ rest) some ∙ (opens
    ∙ then_ok (size_at h.1 (h.2 ++ rest)) (λ n. list_at (value_at (room - 1)) n.0 n.1) (n, rest) _ (size_again h.1 h.2 n rest h.5) refl))

pub dict-read-inside : (room n : ℕ) (octets rest : List ℕ) → 0 < room → IsToken (DictOf n) octets rest → value_at room octets ≡ dict_at (value_at (room - 1)) n tree.no_entries true rest
unfolding nest_at
dict-read-inside room n octets rest some h =
    let opens : nest_at (value_at (room - 1)) (form_of h.0) (h.2 ++ rest) ≡ (size_at h.1 (h.2 ++ rest) >>= λ n. dict_at (value_at (room - 1)) n.0 tree.no_entries true n.1) = rw h.4 refl in
    ap (value_at room) h.3 ∙ (value-nests room h.0 (h.2 ++ rest) some ∙ (opens
    ∙ then_ok (size_at h.1 (h.2 ++ rest)) (λ n. dict_at (value_at (room - 1)) n.0 tree.no_entries true n.1) (n, rest) _ (size_again h.1 h.2 n rest h.5) refl))

-- without room neither is read
pub list-too_deep : (n : ℕ) (octets rest : List ℕ) → IsToken (ListOf n) octets rest → (d : tree.Data) (left : List ℕ) → value_at zero octets ≡ Ok (d, left) → ⊥
unfolding value_at leaf_at
list-too_deep n octets rest h d left e =
    let deep : value_at zero (h.0 ∷ (h.2 ++ rest)) ≡ Err TooDeep = rw h.4 refl in
    let same = sym (ap (value_at zero) h.3 ∙ deep) ∙ e in
    cc

pub dict-too_deep : (n : ℕ) (octets rest : List ℕ) → IsToken (DictOf n) octets rest → (d : tree.Data) (left : List ℕ) → value_at zero octets ≡ Ok (d, left) → ⊥
unfolding value_at leaf_at
dict-too_deep n octets rest h d left e =
    let deep : value_at zero (h.0 ∷ (h.2 ++ rest)) ≡ Err TooDeep = rw h.4 refl in
    let same = sym (ap (value_at zero) h.3 ∙ deep) ∙ e in
    cc
