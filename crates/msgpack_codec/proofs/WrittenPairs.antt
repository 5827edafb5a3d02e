-- What is passed over is written so, each pair of it.
use Rattle.std.proofs.Common.{◌≡◌, ℕ, zero, suc, Bool, true, ◌&&◌, if◌then◌else◌, List, [], ◌∷◌, ◌++◌, length, Ok, refl, sym, ap, ◌∙◌, append_assoc}
use Rattle.message_tree.specs.Data as tree
use Rattle.msgpack_codec.specs.declared.format.Form.{Form}
use Rattle.msgpack_codec.specs.declared.format.Form.TheVariants as forms
use Rattle.msgpack_codec.specs.Format.{form_of}
use Rattle.msgpack_codec.specs.Values.{is_text}
use Rattle.msgpack_codec.specs.Grammar.{ArePairsSpelled}
use Rattle.msgpack_codec.specs.Written.{add_entry, map_written, IsWrittenNest, Writes}
use Rattle.msgpack_codec.specs.body.Decoder.{◌>>=◌, Found, size_at, items_at}
use Rattle.msgpack_codec.specs.body.Passing.{pairs_at, list_at, written_nest_at, written_at}
use Rattle.msgpack_codec.proofs.ReadIsSpelled.{found-is, behind, Front, size_found, leaf_found, items_found}

pub pairs_found : (p : List ℕ → Found tree.Data) (S : List ℕ → tree.Data → Type 0) (tells : (octets : List ℕ) (d : tree.Data) (rest : List ℕ) → p octets ≡ Ok (d, rest) → Front (λ f. S f d) octets rest)
    (n : ℕ) (found : tree.Entries) (texts : Bool) (octets : List ℕ) (all : tree.Data) (rest : List ℕ) → pairs_at p n found texts octets ≡ Ok (all, rest)
    → (ps : List (tree.Data × tree.Data)) × (front : List ℕ) × (octets ≡ front ++ rest) × (length ps ≡ n) × ArePairsSpelled S front ps × (all ≡ map_written found texts ps)
unfolding pairs_at
pairs_found p S tells zero found texts octets all rest e =
    let same = found-is (if texts then tree.dict found else tree.uncarried) all octets rest e in
    ([], [], same.1, refl, refl, sym same.0)
pairs_found p S tells (suc n) found texts octets all rest e =
    let b = behind (p octets) (λ k. p k.1 >>= λ v. pairs_at p n (add_entry k.0 v.0 found) (texts && is_text k.0) v.1) (all, rest) e in
    let c = behind (p b.rest) (λ v. pairs_at p n (add_entry b.value v.0 found) (texts && is_text b.value) v.1) (all, rest) b.after in
    let key = tells octets b.value b.rest b.first in
    let value = tells b.rest c.value c.rest c.first in
    let more = pairs_found p S tells n (add_entry b.value c.value found) (texts && is_text b.value) c.rest all rest c.after in (
      (b.value, c.value) ∷ more.0,
      key.0 ++ (value.0 ++ more.1),
      key.1 ∙ ap (λ (r : List ℕ). key.0 ++ r) (value.1 ∙ ap (λ (r : List ℕ). value.0 ++ r) more.2) ∙ simp append_assoc,
      ap suc more.3,
      (key.0, value.0, more.1, refl, key.2, value.2, more.4),
      more.5,
    )

nest_found : (p : List ℕ → Found tree.Data) (S : List ℕ → tree.Data → Type 0) (tells : (octets : List ℕ) (d : tree.Data) (rest : List ℕ) → p octets ≡ Ok (d, rest) → Front (λ f. S f d) octets rest)
    (form : Form) (octets : List ℕ) (d : tree.Data) (rest : List ℕ) → written_nest_at p form octets ≡ Ok (d, rest) → Front (λ f. IsWrittenNest S form f d) octets rest
unfolding written_nest_at list_at
nest_found p S tells forms.Null octets d rest e = leaf_found forms.Null octets d rest e
nest_found p S tells (forms.Flag b) octets d rest e = leaf_found (forms.Flag b) octets d rest e
nest_found p S tells (forms.Whole z) octets d rest e = leaf_found (forms.Whole z) octets d rest e
nest_found p S tells (forms.Unsigned w) octets d rest e = leaf_found (forms.Unsigned w) octets d rest e
nest_found p S tells (forms.Signed w) octets d rest e = leaf_found (forms.Signed w) octets d rest e
nest_found p S tells (forms.Text size) octets d rest e = leaf_found (forms.Text size) octets d rest e
nest_found p S tells (forms.Bytes size) octets d rest e = leaf_found (forms.Bytes size) octets d rest e
nest_found p S tells (forms.List size) octets d rest e =
    let b = behind (size_at size octets) (λ n. items_at p n.0 tree.no_items n.1 >>= λ ds. Ok (tree.list ds.0, ds.1)) (d, rest) e in
    let c = behind (items_at p b.value tree.no_items b.rest) (λ ds. Ok (tree.list ds.0, ds.1)) (d, rest) b.after in
    let same = found-is (tree.list c.value) d c.rest rest c.after in
    let head = size_found size octets b.value b.rest b.first in
    let body = items_found p S tells b.value tree.no_items b.rest c.value c.rest c.first in
    let parts : octets ≡ head.0 ++ (body.1 ++ rest) = head.1 ∙ ap (λ (r : List ℕ). head.0 ++ r) (body.2 ∙ ap (λ (r : List ℕ). body.1 ++ r) same.1) in (
      head.0 ++ body.1,
      parts ∙ sym (append_assoc head.0 body.1 rest),
      (head.0, body.1, body.0, rw body.3 head.2, refl, body.4, sym same.0 ∙ ap tree.list body.5),
    )
nest_found p S tells (forms.Dict size) octets d rest e =
    let b = behind (size_at size octets) (λ n. pairs_at p n.0 tree.no_entries true n.1) (d, rest) e in
    let head = size_found size octets b.value b.rest b.first in
    let body = pairs_found p S tells b.value tree.no_entries true b.rest d rest b.after in
    let parts : octets ≡ head.0 ++ (body.1 ++ rest) = head.1 ∙ ap (λ (r : List ℕ). head.0 ++ r) body.2 in (
      head.0 ++ body.1,
      parts ∙ sym (append_assoc head.0 body.1 rest),
      (head.0, body.1, body.0, rw body.3 head.2, refl, body.4, body.5),
    )
nest_found p S tells (forms.Foreign size) octets d rest e = leaf_found (forms.Foreign size) octets d rest e
nest_found p S tells (forms.Float w) octets d rest e = leaf_found (forms.Float w) octets d rest e
nest_found p S tells forms.Never octets d rest e = leaf_found forms.Never octets d rest e

-- a value that is passed over is written by a front of the octets
pub written_found : (room : ℕ) (octets : List ℕ) (d : tree.Data) (rest : List ℕ) → written_at room octets ≡ Ok (d, rest) → Front (λ f. Writes room f d) octets rest
unfolding written_at Writes
written_found zero [] d rest e = absurd cc
written_found zero (c ∷ octets) d rest e =
    let f = leaf_found (form_of c) octets d rest e in
    (c ∷ f.0, ap (λ (r : List ℕ). c ∷ r) f.1, f.2)
written_found (suc room) [] d rest e = absurd cc
written_found (suc room) (c ∷ octets) d rest e =
    let f = nest_found (written_at room) (Writes room) (written_found room) (form_of c) octets d rest e in
    (c ∷ f.0, ap (λ (r : List ℕ). c ∷ r) f.1, f.2)

-- what stands before the rest, behind the head of a list
pub items_before : (room n : ℕ) (octets : List ℕ) (d : tree.Data) (rest : List ℕ) → list_at (written_at room) n octets ≡ Ok (d, rest) → (body : List ℕ) × (octets ≡ body ++ rest)
unfolding list_at
items_before room n octets d rest e =
    let b = behind (items_at (written_at room) n tree.no_items octets) (λ ds. Ok (tree.list ds.0, ds.1)) (d, rest) e in
    let same = found-is (tree.list b.value) d b.rest rest b.after in
    let body = items_found (written_at room) (Writes room) (written_found room) n tree.no_items octets b.value b.rest b.first in
    (body.1, body.2 ∙ ap (λ (r : List ℕ). body.1 ++ r) same.1)

-- and behind that of a map
pub pairs_before : (room n : ℕ) (octets : List ℕ) (d : tree.Data) (rest : List ℕ) → pairs_at (written_at room) n tree.no_entries true octets ≡ Ok (d, rest) → (body : List ℕ) × (octets ≡ body ++ rest)
pairs_before room n octets d rest e =
    let body = pairs_found (written_at room) (Writes room) (written_found room) n tree.no_entries true octets d rest e in
    (body.1, body.2)
