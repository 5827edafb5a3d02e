-- The entries of a dictionary, one after another.
use Rattle.std.proofs.Common.{◌≡◌, ◌-◌, ℕ, zero, suc, List, [], ◌∷◌, true, Ok, refl, sym, ap, ◌∙◌, subst, arith}
use Rattle.message_tree.specs.Data as tree
use Rattle.msgpack_codec.specs.Values.{keep_entry, is_text}
use Rattle.msgpack_codec.specs.body.Decoder.{◌>>=◌, dict_at, value_at}
use Rattle.msgpack_codec.proofs.ReadIsSpelled.{found-is, behind}
use Rattle.msgpack_cursor.specs.Entries.{put_all, key_of, pairs_in, IsPair, ArePairs}
use Rattle.msgpack_cursor.specs.Standing.{entries_of, value_in, rest_in}
use Rattle.msgpack_cursor.specs.body.Fronts.{IsEntry}
use Rattle.msgpack_cursor.proofs.Readings.{value-read, rest-read, text-key}

-- a text, and a value behind it
record Read (room : ℕ) (octets s : List ℕ) (d : tree.Data) (rest : List ℕ) : Type 0 where
  pub is : IsPair room octets
  pub key : key_of (value_in room octets) ≡ s
  pub value : value_in room (rest_in room octets) ≡ d
  pub after : rest_in room (rest_in room octets) ≡ rest

pair-read : (room : ℕ) (octets s : List ℕ) (d : tree.Data) (rest : List ℕ) → IsEntry (value_at room) octets s d rest → Read room octets s d rest
pair-read room octets s d rest e =
    let r = rest-read room octets (tree.text s) e.0 e.1 in
    let key : key_of (value_in room octets) ≡ s = ap key_of (value-read room octets (tree.text s) e.0 e.1) in
    let value : value_in room (rest_in room octets) ≡ d = ap (value_in room) r ∙ value-read room e.0 d rest e.2 in
    let after : rest_in room (rest_in room octets) ≡ rest = ap (rest_in room) r ∙ rest-read room e.0 d rest e.2 in
    record {
      is = (
        e.1 ∙ (ap (λ (k : List ℕ). Ok (tree.text k, e.0)) (sym key) ∙ ap (λ (o : List ℕ). Ok (tree.text (key_of (value_in room octets)), o)) (sym r)),
        ap (value_at room) r ∙ (e.2 ∙ (ap (λ (v : tree.Data). Ok (v, rest)) (sym value) ∙ ap (λ (o : List ℕ). Ok (value_in room (rest_in room octets), o)) (sym after))),
      );
      key = key;
      value = value;
      after = after;
    }

text-is : (k : tree.Data) → is_text k ≡ true → k ≡ tree.text (key_of k)
text-is (tree.text s) is = refl
text-is tree.null is = absurd cc
text-is (tree.flag b) is = absurd cc
text-is (tree.whole z) is = absurd cc
text-is (tree.bytes b) is = absurd cc
text-is (tree.list ds) is = absurd cc
text-is (tree.dict es) is = absurd cc
text-is tree.uncarried is = absurd cc

-- what stands there, put into what was found, makes the dictionary that is read
pub pairs-there : (room n : ℕ) (found : tree.Entries) (octets : List ℕ) (es : tree.Entries) (rest : List ℕ) → dict_at (value_at room) n found true octets ≡ Ok (tree.dict es, rest)
    → ArePairs room n octets × (put_all (pairs_in room n octets) found ≡ es)
unfolding dict_at ArePairs pairs_in
pairs-there room zero found octets es rest e = (tt, ap entries_of (found-is (tree.dict found) (tree.dict es) octets rest e).0)
pairs-there room (suc n) found octets es rest e =
    let p = value_at room in
    let k = behind (p octets) (λ k. p k.1 >>= λ v. dict_at p n (keep_entry k.0 v.0 found) (is_text k.0) v.1) (tree.dict es, rest) e in
    let v = behind (p k.rest) (λ v. dict_at p n (keep_entry k.value v.0 found) (is_text k.value) v.1) (tree.dict es, rest) k.after in
    let s = key_of k.value in
    let is : k.value ≡ tree.text s = text-is k.value (text-key p n (keep_entry k.value v.value found) (is_text k.value) v.rest es rest v.after) in
    let r = pair-read room octets s v.value v.rest (k.rest, k.first ∙ ap (λ (x : tree.Data). Ok (x, k.rest)) is, v.first) in
    let more = pairs-there room n (tree.put s v.value found) v.rest es rest (ap (λ x. dict_at p n (keep_entry x v.value found) (is_text x) v.rest) (sym is) ∙ v.after) in (
      (r.is, subst (ArePairs room n) (sym r.after) more.0),
      ap (λ x. put_all (pairs_in room n (rest_in room (rest_in room octets))) (tree.put x (value_in room (rest_in room octets)) found)) r.key
          ∙ (ap (λ x. put_all (pairs_in room n (rest_in room (rest_in room octets))) (tree.put s x found)) r.value
          ∙ (ap (λ o. put_all (pairs_in room n o) (tree.put s v.value found)) r.after ∙ more.1)),
    )

-- the next one

pub no-pairs : (room n : ℕ) (octets : List ℕ) → n ≡ 0 → pairs_in room n octets ≡ []
unfolding pairs_in
no-pairs room zero octets is = refl
no-pairs room (suc n) octets is = absurd (omega (arith, is))

pub first-pair : (room n : ℕ) (octets : List ℕ) → (n ≡ 0 → ⊥) → ArePairs room n octets → IsPair room octets
unfolding ArePairs
first-pair room zero octets some there = absurd (some refl)
first-pair room (suc n) octets some there = there.0

pub more-pairs : (room n : ℕ) (octets s : List ℕ) (d : tree.Data) (rest : List ℕ) → (n ≡ 0 → ⊥) → ArePairs room n octets → IsEntry (value_at room) octets s d rest
    → ArePairs room (n - 1) rest × (pairs_in room n octets ≡ (s, d) ∷ pairs_in room (n - 1) rest)
unfolding ArePairs pairs_in
more-pairs room zero octets s d rest some there e = absurd (some refl)
more-pairs room (suc n) octets s d rest some there e =
    let one : (suc n) - 1 ≡ n = omega arith in
    let r = pair-read room octets s d rest e in (
      subst (λ m. ArePairs room m rest) (sym one) (subst (ArePairs room n) r.after there.1),
      ap (λ k. (k, value_in room (rest_in room octets)) ∷ pairs_in room n (rest_in room (rest_in room octets))) r.key
          ∙ (ap (λ v. (s, v) ∷ pairs_in room n (rest_in room (rest_in room octets))) r.value
          ∙ (ap (λ o. (s, d) ∷ pairs_in room n o) r.after ∙ ap (λ m. (s, d) ∷ pairs_in room m rest) (sym one))),
    )
