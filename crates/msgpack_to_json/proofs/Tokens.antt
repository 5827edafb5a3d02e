-- What is passed over behind the token at the front of octets.
use Rattle.std.proofs.Common.{◌≡◌, ◌-◌, ◌≤◌, ℕ, zero, suc, List, [], ◌∷◌, ◌++◌, true, false, true≢false, Ok, Err, refl, sym, ap, ◌∙◌, subst, arith}
use Rattle.message_tree.specs.Data.{Data, null, flag, whole, text, bytes, list, dict, uncarried, is_carried, no_entries}
use Rattle.message_tree.specs.View.{items_of}
use Rattle.msgpack_codec.specs.declared.tokens.Token.{Token}
use Rattle.msgpack_codec.specs.declared.tokens.Token.TheVariants.{Null, Flag, Whole, Text, Bytes, List as ListOf, Dict as DictOf, Uncarried}
use Rattle.msgpack_codec.specs.Format.{form_of}
use Rattle.msgpack_codec.specs.Short.{short}
use Rattle.msgpack_codec.specs.Written.{settled}
use Rattle.msgpack_codec.specs.Tokens.{BeginsWith, IsToken, IsNoToken}
use Rattle.msgpack_codec.specs.declared.fault.Fault.TheVariants.{TooDeep}
use Rattle.msgpack_codec.specs.body.Tokens.{data_of, IsLeafToken}
use Rattle.msgpack_codec.specs.body.Decoder.{◌>>=◌, Found, size_at, leaf_at, value_at}
use Rattle.msgpack_codec.specs.body.Passing.{list_at, pairs_at, written_nest_at, written_at}
use Rattle.msgpack_codec.proofs.SpelledIsRead.{value_again, size_again, then_ok}
use Rattle.msgpack_codec.proofs.ReadIsSpelled.{found-is}
use Rattle.msgpack_codec.proofs.NestJudgements.{nest-of-leaf}
use Rattle.msgpack_codec.proofs.WrittenIsRead.{as_settled, value_settles}
use Rattle.msgpack_codec.proofs.WrittenPairs.{written_found}
use Rattle.msgpack_codec.proofs.OneWriting.{one_writing}
use Rattle.msgpack_codec.proofs.Depth.{depth_within}
use Rattle.msgpack_codec.proofs.Fine.{spelled_fine}
use Rattle.msgpack_codec.proofs.ShortIsWritten.{short_written}
use Rattle.msgpack_codec.specs.Values.{is_text}
use Rattle.msgpack_canonical.proofs.Tokens.{no-token}
use Rattle.msgpack_to_json.specs.Standing.{Stands}
use Rattle.msgpack_to_json.specs.body.Members.{ItemsAt, PairsAt, entries_of}
use Rattle.msgpack_to_json.proofs.Pairs.{list-each, dict-each}

-- ---- a value with nothing inside

leaf-written : (room c : ℕ) (o : List ℕ) (d : Data) (rest : List ℕ) → value_at zero (c ∷ o) ≡ Ok (d, rest) → written_at room (c ∷ o) ≡ Ok (d, rest)
unfolding value_at written_at
leaf-written zero c o d rest e = e
leaf-written (suc room) c o d rest e = nest-of-leaf (written_at room) (form_of c) o d rest e ∙ e

nothing-read : (d : Data) (rest : List ℕ) → value_at zero [] ≡ Ok (d, rest) → ⊥
unfolding value_at
nothing-read d rest e = cc

leaf-read : (room : ℕ) (octets : List ℕ) (d : Data) (rest : List ℕ) → value_at zero octets ≡ Ok (d, rest) → written_at room octets ≡ Ok (d, rest)
leaf-read room [] d rest e = absurd (nothing-read d rest e)
leaf-read room (c ∷ o) d rest e = leaf-written room c o d rest e

begins-read : (room : ℕ) (octets : List ℕ) (d : Data) (rest : List ℕ) → BeginsWith d octets rest → written_at room octets ≡ Ok (d, rest)
begins-read room octets d rest h = leaf-read room octets d rest (ap (value_at zero) h.1 ∙ value_again zero h.0 d rest h.2)

pub leaf-passed : (room : ℕ) (t : Token) (octets rest : List ℕ) → IsLeafToken t → IsToken t octets rest → written_at room octets ≡ Ok (data_of t, rest)
leaf-passed room Null octets rest leaf h = begins-read room octets _ rest h
leaf-passed room (Flag b) octets rest leaf h = begins-read room octets _ rest h
leaf-passed room (Whole z) octets rest leaf h = begins-read room octets _ rest h
leaf-passed room (Text s) octets rest leaf h = begins-read room octets _ rest h
leaf-passed room (Bytes s) octets rest leaf h = begins-read room octets _ rest h
leaf-passed room (ListOf n) octets rest leaf h = absurd leaf
leaf-passed room (DictOf n) octets rest leaf h = absurd leaf
leaf-passed room Uncarried octets rest leaf h = begins-read room octets _ rest h

-- ---- the head of a list or dictionary

pub list-passed : (room n : ℕ) (octets rest : List ℕ) → IsToken (ListOf n) octets rest → written_at (suc room) octets ≡ list_at (written_at room) n rest
unfolding written_at written_nest_at
list-passed room n octets rest h =
    let opens : written_nest_at (written_at room) (form_of h.0) (h.2 ++ rest) ≡ (size_at h.1 (h.2 ++ rest) >>= λ n. list_at (written_at room) n.0 n.1) = rw h.4 refl in
    ap (written_at (suc room)) h.3 ∙ (opens ∙ then_ok (size_at h.1 (h.2 ++ rest)) (λ n. list_at (written_at room) n.0 n.1) (n, rest) _ (size_again h.1 h.2 n rest h.5) refl)

pub dict-passed : (room n : ℕ) (octets rest : List ℕ) → IsToken (DictOf n) octets rest → written_at (suc room) octets ≡ pairs_at (written_at room) n no_entries true rest
unfolding written_at written_nest_at
dict-passed room n octets rest h =
    let opens : written_nest_at (written_at room) (form_of h.0) (h.2 ++ rest) ≡ (size_at h.1 (h.2 ++ rest) >>= λ n. pairs_at (written_at room) n.0 no_entries true n.1) = rw h.4 refl in
    ap (written_at (suc room)) h.3 ∙ (opens ∙ then_ok (size_at h.1 (h.2 ++ rest)) (λ n. pairs_at (written_at room) n.0 no_entries true n.1) (n, rest) _ (size_again h.1 h.2 n rest h.5) refl)

-- without room neither is passed over
pub list-too_deep : (n : ℕ) (octets rest : List ℕ) → IsToken (ListOf n) octets rest → (d : Data) (after : List ℕ) → written_at zero octets ≡ Ok (d, after) → ⊥
unfolding written_at leaf_at
list-too_deep n octets rest h d after e =
    let deep : written_at zero (h.0 ∷ (h.2 ++ rest)) ≡ Err TooDeep = rw h.4 refl in
    let same = sym (ap (written_at zero) h.3 ∙ deep) ∙ e in
    cc

pub dict-too_deep : (n : ℕ) (octets rest : List ℕ) → IsToken (DictOf n) octets rest → (d : Data) (after : List ℕ) → written_at zero octets ≡ Ok (d, after) → ⊥
unfolding written_at leaf_at
dict-too_deep n octets rest h d after e =
    let deep : written_at zero (h.0 ∷ (h.2 ++ rest)) ≡ Err TooDeep = rw h.4 refl in
    let same = sym (ap (written_at zero) h.3 ∙ deep) ∙ e in
    cc

-- ---- what stands as it is written is passed over

settled-of : (found : Found Data) (d : Data) (after : List ℕ) → as_settled found ≡ Ok (d, after) → (w : Data) × (found ≡ Ok (w, after))
settled-of (Ok x) d after e = (x.0, ap (λ (r : List ℕ). Ok (x.0, r)) (found-is (settled x.0) d x.1 after e).1)
settled-of (Err f) d after e = absurd cc

pub stands-passed : (octets after : List ℕ) (d : Data) → Stands octets after d → written_at 100 octets ≡ Ok (d, after)
stands-passed octets after d s =
    let read : value_at 100 octets ≡ Ok (d, after) = ap (value_at 100) s.parts ∙ value_again 100 (short d) d after s.spelled in
    let passed = settled-of (written_at 100 octets) d after (sym (value_settles 100 octets) ∙ read) in
    let front = written_found 100 octets passed.0 after passed.1 in
    let own = short_written d 100 (spelled_fine 100 (short d) d s.spelled) s.carried s.has_short (depth_within 100 (short d) d s.spelled) in
    let same = one_writing 100 front.0 (short d) after after passed.0 d front.2 own (sym front.1 ∙ s.parts) in
    passed.1 ∙ ap (λ (x : Data). Ok (x, after)) same.0

-- ---- without a token nothing is passed over

pub no-token-passed : (room : ℕ) (octets : List ℕ) → IsNoToken octets → (d : Data) (after : List ℕ) → written_at room octets ≡ Ok (d, after) → ⊥
no-token-passed room octets none d after e = no-token room octets none (settled d) after (value_settles room octets ∙ ap as_settled e)

-- ---- keys

abbrev text-in : Data → List ℕ
text-in null = []
text-in (flag b) = []
text-in (whole z) = []
text-in (text s) = s
text-in (bytes b) = []
text-in (list ds) = []
text-in (dict es) = []
text-in uncarried = []

pub key-passed : (room : ℕ) (t : Token) (octets rest : List ℕ) → IsToken t octets rest → IsLeafToken t → (k : List ℕ) → data_of t ≡ text k
    → (key after : List ℕ) → written_at room octets ≡ Ok (text key, after) → (k ≡ key) × (rest ≡ after)
key-passed room t octets rest h leaf k is key after e =
    let same = found-is (data_of t) (text key) rest after (sym (leaf-passed room t octets rest leaf h) ∙ e) in
    (ap text-in (sym is ∙ same.0), same.1)

leaf-no-key : (room : ℕ) (t : Token) (octets rest : List ℕ) → IsLeafToken t → IsToken t octets rest → is_text (data_of t) ≡ false → (key after : List ℕ) → written_at room octets ≡ Ok (text key, after) → ⊥
leaf-no-key room t octets rest leaf h nay key after e =
    let same = found-is (data_of t) (text key) rest after (sym (leaf-passed room t octets rest leaf h) ∙ e) in
    true≢false (sym (ap is_text same.0) ∙ nay)

list-no-key : (value : List ℕ → Found Data) (n : ℕ) (octets key after : List ℕ) → list_at value n octets ≡ Ok (text key, after) → ⊥
list-no-key value n octets key after e = let l = list-each value n octets (text key) after e in true≢false (ap is_text l.3)

dict-no-key : (value : List ℕ → Found Data) (n : ℕ) (octets key after : List ℕ) → pairs_at value n no_entries true octets ≡ Ok (text key, after) → ⊥
dict-no-key value n octets key after e = let p = dict-each value n octets (text key) after e refl in true≢false (ap is_text p.4)

-- what is no text is no key
pub no-key-passed : (room : ℕ) (t : Token) (octets rest : List ℕ) → IsToken t octets rest → is_text (data_of t) ≡ false → (key after : List ℕ) → written_at room octets ≡ Ok (text key, after) → ⊥
no-key-passed room Null octets rest h nay key after e = leaf-no-key room Null octets rest tt h refl key after e
no-key-passed room (Flag b) octets rest h nay key after e = leaf-no-key room (Flag b) octets rest tt h refl key after e
no-key-passed room (Whole z) octets rest h nay key after e = leaf-no-key room (Whole z) octets rest tt h refl key after e
no-key-passed room (Text s) octets rest h nay key after e = true≢false nay
no-key-passed room (Bytes s) octets rest h nay key after e = leaf-no-key room (Bytes s) octets rest tt h refl key after e
no-key-passed zero (ListOf n) octets rest h nay key after e = list-too_deep n octets rest h (text key) after e
no-key-passed (suc room) (ListOf n) octets rest h nay key after e = list-no-key (written_at room) n rest key after (sym (list-passed room n octets rest h) ∙ e)
no-key-passed zero (DictOf n) octets rest h nay key after e = dict-too_deep n octets rest h (text key) after e
no-key-passed (suc room) (DictOf n) octets rest h nay key after e = dict-no-key (written_at room) n rest key after (sym (dict-passed room n octets rest h) ∙ e)
no-key-passed room Uncarried octets rest h nay key after e = leaf-no-key room Uncarried octets rest tt h refl key after e

-- ---- lists and dictionaries that are passed over

pub list-written : (room less n : ℕ) (t : Token) (octets rest : List ℕ) → 1 ≤ room → less ≡ room - 1 → t ≡ ListOf n → IsToken t octets rest
    → (d : Data) (after : List ℕ) → written_at room octets ≡ Ok (d, after) → is_carried d ≡ true → (ds : List Data) × ItemsAt less n rest after ds × (d ≡ list (items_of ds))
list-written room less n t octets rest some is token h d after read carried =
    let more : room ≡ suc less = omega arith in
    let here : IsToken (ListOf n) octets rest = subst (λ x. IsToken x octets rest) token h in
    let l = list-each (written_at less) n rest d after (sym (list-passed less n octets rest here) ∙ (ap (λ r. written_at r octets) (sym more) ∙ read)) in
    (l.0, record { each = l.1; counted = l.2; carried = ap is_carried (sym l.3) ∙ carried }, l.3)

pub dict-written : (room less n : ℕ) (t : Token) (octets rest : List ℕ) → 1 ≤ room → less ≡ room - 1 → t ≡ DictOf n → IsToken t octets rest
    → (d : Data) (after : List ℕ) → written_at room octets ≡ Ok (d, after) → is_carried d ≡ true → (ps : List (Data × Data)) × PairsAt less n rest after ps × (d ≡ dict (entries_of ps))
dict-written room less n t octets rest some is token h d after read carried =
    let more : room ≡ suc less = omega arith in
    let here : IsToken (DictOf n) octets rest = subst (λ x. IsToken x octets rest) token h in
    let p = dict-each (written_at less) n rest d after (sym (dict-passed less n octets rest here) ∙ (ap (λ r. written_at r octets) (sym more) ∙ read)) carried in
    (p.0, record { each = p.1; counted = p.2; texts = p.3; carried = ap is_carried (sym p.4) ∙ carried }, p.4)

pub list-without-room : (room n : ℕ) (t : Token) (octets rest : List ℕ) → (1 ≤ room → ⊥) → t ≡ ListOf n → IsToken t octets rest → (d : Data) (after : List ℕ) → written_at room octets ≡ Ok (d, after) → ⊥
list-without-room zero n t octets rest none token h d after read = list-too_deep n octets rest (subst (λ x. IsToken x octets rest) token h) d after read
list-without-room (suc room) n t octets rest none token h d after read = none (omega arith)

pub dict-without-room : (room n : ℕ) (t : Token) (octets rest : List ℕ) → (1 ≤ room → ⊥) → t ≡ DictOf n → IsToken t octets rest → (d : Data) (after : List ℕ) → written_at room octets ≡ Ok (d, after) → ⊥
dict-without-room zero n t octets rest none token h d after read = dict-too_deep n octets rest (subst (λ x. IsToken x octets rest) token h) d after read
dict-without-room (suc room) n t octets rest none token h d after read = none (omega arith)

-- ---- a value with nothing inside that is passed over

pub leaf-is : (room : ℕ) (t : Token) (octets rest : List ℕ) → IsLeafToken t → IsToken t octets rest → (d : Data) (after : List ℕ) → written_at room octets ≡ Ok (d, after) → (data_of t ≡ d) × (rest ≡ after)
leaf-is room t octets rest leaf h d after read = found-is (data_of t) d rest after (sym (leaf-passed room t octets rest leaf h) ∙ read)

pub is-leaf : (t : Token) → ((n : ℕ) → t ≡ ListOf n → ⊥) → ((n : ℕ) → t ≡ DictOf n → ⊥) → IsLeafToken t
is-leaf Null no_list no_dict = tt
is-leaf (Flag b) no_list no_dict = tt
is-leaf (Whole z) no_list no_dict = tt
is-leaf (Text s) no_list no_dict = tt
is-leaf (Bytes s) no_list no_dict = tt
is-leaf (ListOf n) no_list no_dict = no_list n refl
is-leaf (DictOf n) no_list no_dict = no_dict n refl
is-leaf Uncarried no_list no_dict = tt
