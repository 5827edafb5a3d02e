-- What is read is spelled so, each octet of it.
use Rattle.std.proofs.Common.{◌≡◌, ℕ, zero, suc, pos, ◌≤◌, Bool, true, false, ◌&&◌, cond, if◌then◌else◌, ltb, List, [], ◌∷◌, ◌++◌, length, take, drop, Result, Ok, Err, refl, sym, ap, ◌∙◌, append_assoc}
use Rattle.std.specs.Int.{byte_len, from_be_bytes}
use Rattle.std.proofs.lemmas.Bool.{ltb-false}
use Rattle.std.proofs.lemmas.List.{take-append-drop, length-take-le}
use Rattle.message_tree.specs.Data as tree
use Rattle.message_tree.specs.View.{items_of}
use Rattle.msgpack_codec.specs.declared.fault.Fault.{Fault}
use Rattle.msgpack_codec.specs.declared.fault.Fault.TheVariants.{Malformed}
use Rattle.msgpack_codec.specs.declared.format.Form.{Form}
use Rattle.msgpack_codec.specs.declared.format.Form.TheVariants as forms
use Rattle.msgpack_codec.specs.declared.format.Size.{Size}
use Rattle.msgpack_codec.specs.declared.format.Size.TheVariants.{Here, Next}
use Rattle.msgpack_codec.specs.declared.format.Width.{Width}
use Rattle.msgpack_codec.specs.Format.{form_of, bits_of}
use Rattle.msgpack_codec.specs.body.Decoder.{◌>>=◌, Found, octets_at, number_at, size_at, sized_at, push_item, items_at, dict_at, leaf_at, nest_at, value_at}
use Rattle.msgpack_codec.specs.Values.{signed_from, text_from, keep_entry, is_text}
use Rattle.msgpack_codec.specs.Grammar.{IsNumber, IsSize, IsSized, IsLeaf, AreSpelled, ArePairsSpelled, map_from, IsNest, Spells}

-- a value was read, and these octets are left
abbrev pub read : {A : Type 0} → A → List ℕ → Found A
read value rest = Ok (value, rest)

pub found-is : {A : Type 0} (value other : A) (rest left : List ℕ) → read value rest ≡ read other left → (value ≡ other) × (rest ≡ left)
found-is {A} value other rest left same =
    let both : ◌≡◌ {A = A × List ℕ} (value, rest) (other, left) = cc in
    (ap (λ p. p.0) both, ap (λ p. p.1) both)

-- what a step read, and that the next step, behind it, came to this end
pub record Behind {A B : Type 0} (step : Found A) (next : A × List ℕ → Result B Fault) (end : B) : Type 0 where
  pub value : A
  pub rest : List ℕ
  pub first : step ≡ read value rest
  pub after : next (value, rest) ≡ Ok end

pub behind : {A B : Type 0} (step : Found A) (next : A × List ℕ → Result B Fault) (end : B) → (step >>= next) ≡ Ok end → Behind step next end
behind (Err fault) next end same = absurd cc
behind (Ok found) next end same = record { value = found.0; rest = found.1; first = refl; after = same }

-- what is read of so many octets is read where there are so many
enough : {A : Type 0} (n : ℕ) (octets : List ℕ) (value other : A) (rest : List ℕ) → cond (ltb (length octets) n) (Err Malformed) (read value (drop n octets)) ≡ read other rest
    → (n ≤ length octets) × (value ≡ other) × (drop n octets ≡ rest)
enough {A} n octets value other rest same = at (ltb (length octets) n) refl same
  where
    at : (b : Bool) → ltb (length octets) n ≡ b → cond b (Err Malformed) (read value (drop n octets)) ≡ read other rest → (n ≤ length octets) × (value ≡ other) × (drop n octets ≡ rest)
    at true short same = absurd cc
    at false long same =
        let is = found-is value other (drop n octets) rest same in
        (ltb-false _ _ long, is.0, is.1)

-- some front of the octets is as P says, and the rest follows it
abbrev pub Front : (List ℕ → Type 0) → List ℕ → List ℕ → Type 0
Front P octets rest = (front : List ℕ) × (octets ≡ front ++ rest) × P front

octets_found : (n : ℕ) (octets s rest : List ℕ) → octets_at n octets ≡ Ok (s, rest) → (octets ≡ s ++ rest) × (length s ≡ n)
octets_found n octets s rest e =
    let g = enough n octets (take n octets) s rest e in
    (rw (← g.1, ← g.2) (sym (take-append-drop n octets)), rw (← g.1) (length-take-le n octets g.0))

pub number_found : (w : Width) (octets : List ℕ) (n : ℕ) (rest : List ℕ) → number_at w octets ≡ Ok (n, rest) → Front (λ f. IsNumber w f n) octets rest
number_found w octets n rest e =
    let k = byte_len (bits_of w) in
    let g = enough k octets (from_be_bytes (bits_of w) (take k octets)) n rest e in
    (take k octets, rw (← g.2) (sym (take-append-drop k octets)), (length-take-le k octets g.0, sym g.1))

pub size_found : (size : Size) (octets : List ℕ) (n : ℕ) (rest : List ℕ) → size_at size octets ≡ Ok (n, rest) → Front (λ f. IsSize size f n) octets rest
unfolding size_at
size_found (Here m) octets n rest e =
    let same = found-is m n octets rest e in
    ([], same.1, (refl, sym same.0))
size_found (Next w) octets n rest e = number_found w octets n rest e

pub sized_found : (size : Size) (octets s rest : List ℕ) → sized_at size octets ≡ Ok (s, rest) → Front (λ f. IsSized size f s) octets rest
unfolding sized_at
sized_found size octets s rest e =
    let b = behind (size_at size octets) (λ n. octets_at n.0 n.1) (s, rest) e in
    let head = size_found size octets b.value b.rest b.first in
    let body = octets_found b.value b.rest s rest b.after in
    (head.0 ++ s, head.1 ∙ ap (λ (r : List ℕ). head.0 ++ r) body.0 ∙ sym (append_assoc head.0 s rest), (head.0, rw body.1 head.2, refl))

pub leaf_found : (form : Form) (octets : List ℕ) (d : tree.Data) (rest : List ℕ) → leaf_at form octets ≡ Ok (d, rest) → Front (λ f. IsLeaf form f d) octets rest
unfolding leaf_at
leaf_found forms.Null octets d rest e =
    let same = found-is tree.null d octets rest e in
    ([], same.1, (refl, sym same.0))
leaf_found (forms.Flag b) octets d rest e =
    let same = found-is (tree.flag b) d octets rest e in
    ([], same.1, (refl, sym same.0))
leaf_found (forms.Whole z) octets d rest e =
    let same = found-is (tree.whole z) d octets rest e in
    ([], same.1, (refl, sym same.0))
leaf_found (forms.Unsigned w) octets d rest e =
    let b = behind (number_at w octets) (λ n. Ok (tree.whole (pos n.0), n.1)) (d, rest) e in
    let same = found-is (tree.whole (pos b.value)) d b.rest rest b.after in
    let f = number_found w octets b.value b.rest b.first in
    (f.0, f.1 ∙ ap (λ (r : List ℕ). f.0 ++ r) same.1, (b.value, f.2, sym same.0))
leaf_found (forms.Signed w) octets d rest e =
    let b = behind (number_at w octets) (λ n. Ok (tree.whole (signed_from w n.0), n.1)) (d, rest) e in
    let same = found-is (tree.whole (signed_from w b.value)) d b.rest rest b.after in
    let f = number_found w octets b.value b.rest b.first in
    (f.0, f.1 ∙ ap (λ (r : List ℕ). f.0 ++ r) same.1, (b.value, f.2, sym same.0))
leaf_found (forms.Text size) octets d rest e =
    let b = behind (sized_at size octets) (λ s. Ok (text_from s.0, s.1)) (d, rest) e in
    let same = found-is (text_from b.value) d b.rest rest b.after in
    let f = sized_found size octets b.value b.rest b.first in
    (f.0, f.1 ∙ ap (λ (r : List ℕ). f.0 ++ r) same.1, (b.value, f.2, sym same.0))
leaf_found (forms.Bytes size) octets d rest e =
    let b = behind (sized_at size octets) (λ s. Ok (tree.bytes s.0, s.1)) (d, rest) e in
    let same = found-is (tree.bytes b.value) d b.rest rest b.after in
    let f = sized_found size octets b.value b.rest b.first in
    (f.0, f.1 ∙ ap (λ (r : List ℕ). f.0 ++ r) same.1, (b.value, f.2, sym same.0))
leaf_found (forms.List size) octets d rest e = absurd cc
leaf_found (forms.Dict size) octets d rest e = absurd cc
leaf_found (forms.Foreign size) octets d rest e =
    let b = behind (size_at size octets) (λ n. octets_at 1 n.1 >>= λ kind. octets_at n.0 kind.1 >>= λ s. Ok (tree.uncarried, s.1)) (d, rest) e in
    let c = behind (octets_at 1 b.rest) (λ kind. octets_at b.value kind.1 >>= λ s. Ok (tree.uncarried, s.1)) (d, rest) b.after in
    let g = behind (octets_at b.value c.rest) (λ s. Ok (tree.uncarried, s.1)) (d, rest) c.after in
    let same = found-is tree.uncarried d g.rest rest g.after in
    let head = size_found size octets b.value b.rest b.first in
    let kind = octets_found 1 b.rest c.value c.rest c.first in
    let body = octets_found b.value c.rest g.value g.rest g.first in
    let parts : octets ≡ head.0 ++ (c.value ++ (g.value ++ rest)) =
    head.1 ∙ ap (λ (r : List ℕ). head.0 ++ r) (kind.0 ∙ ap (λ (r : List ℕ). c.value ++ r) (body.0 ∙ ap (λ (r : List ℕ). g.value ++ r) same.1)) in
    (head.0 ++ (c.value ++ g.value), parts ∙ simp append_assoc, (head.0, c.value, g.value, rw body.1 head.2, kind.1, refl, sym same.0))
leaf_found (forms.Float w) octets d rest e =
    let b = behind (number_at w octets) (λ n. Ok (tree.uncarried, n.1)) (d, rest) e in
    let same = found-is tree.uncarried d b.rest rest b.after in
    let f = number_found w octets b.value b.rest b.first in
    (f.0, f.1 ∙ ap (λ (r : List ℕ). f.0 ++ r) same.1, (f.2.0, sym same.0))
leaf_found forms.Never octets d rest e = absurd cc

-- ---- members

-- items behind others
abbrev pub items_behind : tree.Items → List tree.Data → tree.Items
items_behind tree.no_items ds = items_of ds
items_behind (tree.item d more) ds = tree.item d (items_behind more ds)

pub items_behind-push : (found : tree.Items) (d : tree.Data) (ds : List tree.Data) → items_behind (push_item found d) ds ≡ items_behind found (d ∷ ds)
items_behind-push tree.no_items d ds = refl
items_behind-push (tree.item x more) d ds = ap (tree.item x) (items_behind-push more d ds)

pub items_behind-none : (found : tree.Items) → items_behind found [] ≡ found
items_behind-none tree.no_items = refl
items_behind-none (tree.item x more) = ap (tree.item x) (items_behind-none more)

pub items_found : (p : List ℕ → Found tree.Data) (S : List ℕ → tree.Data → Type 0) (tells : (octets : List ℕ) (d : tree.Data) (rest : List ℕ) → p octets ≡ Ok (d, rest) → Front (λ f. S f d) octets rest)
    (n : ℕ) (found : tree.Items) (octets : List ℕ) (all : tree.Items) (rest : List ℕ) → items_at p n found octets ≡ Ok (all, rest)
    → (ds : List tree.Data) × (front : List ℕ) × (octets ≡ front ++ rest) × (length ds ≡ n) × AreSpelled S front ds × (all ≡ items_behind found ds)
unfolding items_at
items_found p S tells zero found octets all rest e =
    let same = found-is found all octets rest e in
    ([], [], same.1, refl, refl, sym same.0 ∙ sym (items_behind-none found))
items_found p S tells (suc n) found octets all rest e =
    let b = behind (p octets) (λ d. items_at p n (push_item found d.0) d.1) (all, rest) e in
    let one = tells octets b.value b.rest b.first in
    let more = items_found p S tells n (push_item found b.value) b.rest all rest b.after in (
      b.value ∷ more.0,
      one.0 ++ more.1,
      one.1 ∙ ap (λ (r : List ℕ). one.0 ++ r) more.2 ∙ sym (append_assoc one.0 more.1 rest),
      ap suc more.3,
      (one.0, more.1, refl, one.2, more.4),
      more.5 ∙ items_behind-push found b.value more.0,
    )

dict_found : (p : List ℕ → Found tree.Data) (S : List ℕ → tree.Data → Type 0) (tells : (octets : List ℕ) (d : tree.Data) (rest : List ℕ) → p octets ≡ Ok (d, rest) → Front (λ f. S f d) octets rest)
    (n : ℕ) (found : tree.Entries) (texts : Bool) (octets : List ℕ) (all : tree.Data) (rest : List ℕ) → dict_at p n found texts octets ≡ Ok (all, rest)
    → (ps : List (tree.Data × tree.Data)) × (front : List ℕ) × (octets ≡ front ++ rest) × (length ps ≡ n) × ArePairsSpelled S front ps × (all ≡ map_from found texts ps)
unfolding dict_at
dict_found p S tells zero found texts octets all rest e =
    let same = found-is (if texts then tree.dict found else tree.uncarried) all octets rest e in
    ([], [], same.1, refl, refl, sym same.0)
dict_found p S tells (suc n) found texts octets all rest e =
    let b = behind (p octets) (λ k. p k.1 >>= λ v. dict_at p n (keep_entry k.0 v.0 found) (texts && is_text k.0) v.1) (all, rest) e in
    let c = behind (p b.rest) (λ v. dict_at p n (keep_entry b.value v.0 found) (texts && is_text b.value) v.1) (all, rest) b.after in
    let key = tells octets b.value b.rest b.first in
    let value = tells b.rest c.value c.rest c.first in
    let more = dict_found p S tells n (keep_entry b.value c.value found) (texts && is_text b.value) c.rest all rest c.after in (
      (b.value, c.value) ∷ more.0,
      key.0 ++ (value.0 ++ more.1),
      key.1 ∙ ap (λ (r : List ℕ). key.0 ++ r) (value.1 ∙ ap (λ (r : List ℕ). value.0 ++ r) more.2) ∙ simp append_assoc,
      ap suc more.3,
      (key.0, value.0, more.1, refl, key.2, value.2, more.4),
      more.5,
    )

nest_found : (p : List ℕ → Found tree.Data) (S : List ℕ → tree.Data → Type 0) (tells : (octets : List ℕ) (d : tree.Data) (rest : List ℕ) → p octets ≡ Ok (d, rest) → Front (λ f. S f d) octets rest)
    (form : Form) (octets : List ℕ) (d : tree.Data) (rest : List ℕ) → nest_at p form octets ≡ Ok (d, rest) → Front (λ f. IsNest S form f d) octets rest
unfolding nest_at
nest_found p S tells forms.Null octets d rest e = leaf_found forms.Null octets d rest e
nest_found p S tells (forms.Flag b) octets d rest e = leaf_found (forms.Flag b) octets d rest e
nest_found p S tells (forms.Whole z) octets d rest e = leaf_found (forms.Whole z) octets d rest e
nest_found p S tells (forms.Unsigned w) octets d rest e = leaf_found (forms.Unsigned w) octets d rest e
nest_found p S tells (forms.Signed w) octets d rest e = leaf_found (forms.Signed w) octets d rest e
nest_found p S tells (forms.Text size) octets d rest e = leaf_found (forms.Text size) octets d rest e
nest_found p S tells (forms.Bytes size) octets d rest e = leaf_found (forms.Bytes size) octets d rest e
nest_found p S tells (forms.List size) octets d rest e =
    let b = behind (size_at size octets) (λ n. items_at p n.0 tree.no_items n.1 >>= λ ds. Ok (tree.list ds.0, ds.1)) (d, rest) e in
    let c = behind (items_at p b.value tree.no_items b.rest) (λ ds. Ok (tree.list ds.0, ds.1)) (d, rest) b.after in
    let same = found-is (tree.list c.value) d c.rest rest c.after in
    let head = size_found size octets b.value b.rest b.first in
    let body = items_found p S tells b.value tree.no_items b.rest c.value c.rest c.first in
    let parts : octets ≡ head.0 ++ (body.1 ++ rest) = head.1 ∙ ap (λ (r : List ℕ). head.0 ++ r) (body.2 ∙ ap (λ (r : List ℕ). body.1 ++ r) same.1) in (
      head.0 ++ body.1,
      parts ∙ sym (append_assoc head.0 body.1 rest),
      (head.0, body.1, body.0, rw body.3 head.2, refl, body.4, sym same.0 ∙ ap tree.list body.5),
    )
nest_found p S tells (forms.Dict size) octets d rest e =
    let b = behind (size_at size octets) (λ n. dict_at p n.0 tree.no_entries true n.1) (d, rest) e in
    let head = size_found size octets b.value b.rest b.first in
    let body = dict_found p S tells b.value tree.no_entries true b.rest d rest b.after in
    let parts : octets ≡ head.0 ++ (body.1 ++ rest) = head.1 ∙ ap (λ (r : List ℕ). head.0 ++ r) body.2 in (
      head.0 ++ body.1,
      parts ∙ sym (append_assoc head.0 body.1 rest),
      (head.0, body.1, body.0, rw body.3 head.2, refl, body.4, body.5),
    )
nest_found p S tells (forms.Foreign size) octets d rest e = leaf_found (forms.Foreign size) octets d rest e
nest_found p S tells (forms.Float w) octets d rest e = leaf_found (forms.Float w) octets d rest e
nest_found p S tells forms.Never octets d rest e = leaf_found forms.Never octets d rest e

-- a value that is read is spelled by a front of the octets
pub value_found : (room : ℕ) (octets : List ℕ) (d : tree.Data) (rest : List ℕ) → value_at room octets ≡ Ok (d, rest) → Front (λ f. Spells room f d) octets rest
unfolding value_at Spells
value_found zero [] d rest e = absurd cc
value_found zero (c ∷ octets) d rest e =
    let f = leaf_found (form_of c) octets d rest e in
    (c ∷ f.0, ap (λ (r : List ℕ). c ∷ r) f.1, f.2)
value_found (suc room) [] d rest e = absurd cc
value_found (suc room) (c ∷ octets) d rest e =
    let f = nest_found (value_at room) (Spells room) (value_found room) (form_of c) octets d rest e in
    (c ∷ f.0, ap (λ (r : List ℕ). c ∷ r) f.1, f.2)
