-- Whether octets are the least that spell a value, its first octet and what is inside among them.
use Rattle.std.proofs.Common.{◌≡◌, ℕ, ◌^◌, ◌<◌, Bool, true, ◌&&◌, List, ◌∷◌, ◌++◌, Result, Ok, Err, IfOk, refl, sym, ap, ◌∙◌, subst, append_assoc, arith}
use Rattle.std.proofs.lemmas.List.{append_cancel_right}
use Rattle.message_tree.specs.Data as tree
use Rattle.msgpack_codec.specs.declared.format.Form.{Form}
use Rattle.msgpack_codec.specs.declared.format.Form.TheVariants as forms
use Rattle.msgpack_codec.specs.declared.format.Size.{Size}
use Rattle.msgpack_codec.specs.Format.{form_of}
use Rattle.msgpack_codec.specs.Short.{list_head, dict_head}
use Rattle.msgpack_codec.specs.body.Decoder.{Found, size_at, sized_at, leaf_at}
use Rattle.msgpack_codec.specs.body.Passing.{IsJudged, IsFullyJudged, AreItemsJudged, ArePairsJudged, list_at, pairs_at, written_nest_at, written_at}
use Rattle.msgpack_codec.proofs.ReadIsSpelled.{size_found, sized_found, leaf_found}
use Rattle.msgpack_codec.proofs.SpelledIsRead.{then_ok}
use Rattle.msgpack_codec.proofs.NoneIsShorter.{Low, IsFair, low_octets, low_front, as_low, size_holds, size_octets, form_fair, leaf_fits}
use Rattle.msgpack_codec.proofs.WrittenPairs.{items_before, pairs_before}
use Rattle.msgpack_codec.proofs.Judgements.{list-judged, dict-judged}

-- a value that nests nothing has no spelling of fewer octets
pub leaf-judged : (c : ℕ) (form : Form) (all octets rest : List ℕ) (b : Bool) → form ≡ form_of c → all ≡ c ∷ octets → tree.AreOctets all → IsJudged (leaf_at form octets) all rest b → IsFullyJudged (leaf_at form octets) all rest b
leaf-judged c form all octets rest b is begins low judged d front read parts =
    let f = leaf_found form octets d rest read in
    let whole : all ≡ (c ∷ f.0) ++ rest = begins ∙ ap (λ (o : List ℕ). c ∷ o) f.1 in
    let same : front ≡ c ∷ f.0 = append_cancel_right front (c ∷ f.0) rest (sym parts ∙ whole) in
    let fair : IsFair form = subst IsFair (sym is) (form_fair c) in
    let low_all : Low ((c ∷ f.0) ++ rest) = as_low all ((c ∷ f.0) ++ rest) whole (low_octets all low) in
    let le = leaf_fits form f.0 d fair (low_front f.0 rest low_all.1) f.2 in
    let told = judged d front read parts in
    record { fits = rw same le; is = told.0; of = told.1 }

-- what stands before a sized value, its first octet among it
pub sized-before : (size : Size) (o : ℕ) (all octets s rest front : List ℕ) → sized_at size octets ≡ Ok (s, rest) → all ≡ o ∷ octets → all ≡ front ++ rest → (head : List ℕ) × (front ≡ head ++ s)
sized-before size o all octets s rest front read begins parts =
    let f = sized_found size octets s rest read in
    let whole : all ≡ (o ∷ f.0) ++ rest = begins ∙ ap (λ (x : List ℕ). o ∷ x) f.1 in
    (o ∷ f.2.0, append_cancel_right front (o ∷ f.0) rest (sym parts ∙ whole) ∙ ap (λ (x : List ℕ). o ∷ x) f.2.2)

-- whether the octets before others are the least head
abbrev pub SaysLeast : Bool → (ℕ → List ℕ) → ℕ → List ℕ → List ℕ → Type 0
SaysLeast a head_of n all mid =
    (head : List ℕ) → all ≡ head ++ mid → (a ≡ true → (n < 2 ^ 32) × (head ≡ head_of n)) × ((n < 2 ^ 32) × (head ≡ head_of n) → a ≡ true)

pub list-nest-judged : (room c : ℕ) (size : Size) (all octets mid rest : List ℕ) (n : ℕ) (a b : Bool) → forms.List size ≡ form_of c → all ≡ c ∷ octets → tree.AreOctets all → size_at size octets ≡ Ok (n, mid)
    → SaysLeast a list_head n all mid → ((d : tree.Data) (body : List ℕ) → list_at (written_at room) n mid ≡ Ok (d, rest) → mid ≡ body ++ rest → AreItemsJudged n body b d)
    → IsFullyJudged (written_nest_at (written_at room) (forms.List size) octets) all rest (a && b)
unfolding written_nest_at
list-nest-judged room c size all octets mid rest n a b is begins low sized says judged d front read parts =
    let inside : list_at (written_at room) n mid ≡ Ok (d, rest) = sym (then_ok (size_at size octets) (λ m. list_at (written_at room) m.0 m.1) (n, mid) _ sized refl) ∙ read in
    let head = size_found size octets n mid sized in
    let body = items_before room n mid d rest inside in
    let first : all ≡ (c ∷ head.0) ++ mid = begins ∙ ap (λ (o : List ℕ). c ∷ o) head.1 in
    let whole : all ≡ ((c ∷ head.0) ++ body.0) ++ rest = first ∙ ap (λ (o : List ℕ). (c ∷ head.0) ++ o) body.1 ∙ sym (append_assoc (c ∷ head.0) body.0 rest) in
    let same : front ≡ (c ∷ head.0) ++ body.0 = append_cancel_right front _ rest (sym parts ∙ whole) in
    let fair : IsFair (forms.List size) = subst IsFair (sym is) (form_fair c) in
    let low_first : Low ((c ∷ head.0) ++ mid) = as_low all ((c ∷ head.0) ++ mid) first (low_octets all low) in
    let le = fair n (size_holds size head.0 n (low_front head.0 mid low_first.1) head.2) in
    let say = says (c ∷ head.0) first in
    rw same (list-judged a b n (c ∷ head.0) body.0 d (omega (arith, le, size_octets size head.0 n head.2)) say.0 say.1 (judged d body.0 inside body.1))

pub dict-nest-judged : (room c : ℕ) (size : Size) (all octets mid rest : List ℕ) (n : ℕ) (a b : Bool) → forms.Dict size ≡ form_of c → all ≡ c ∷ octets → tree.AreOctets all → size_at size octets ≡ Ok (n, mid)
    → SaysLeast a dict_head n all mid → ((d : tree.Data) (body : List ℕ) → pairs_at (written_at room) n tree.no_entries true mid ≡ Ok (d, rest) → mid ≡ body ++ rest → ArePairsJudged n body b d)
    → IsFullyJudged (written_nest_at (written_at room) (forms.Dict size) octets) all rest (a && b)
unfolding written_nest_at
dict-nest-judged room c size all octets mid rest n a b is begins low sized says judged d front read parts =
    let inside : pairs_at (written_at room) n tree.no_entries true mid ≡ Ok (d, rest) = sym (then_ok (size_at size octets) (λ m. pairs_at (written_at room) m.0 tree.no_entries true m.1) (n, mid) _ sized refl) ∙ read in
    let head = size_found size octets n mid sized in
    let body = pairs_before room n mid d rest inside in
    let first : all ≡ (c ∷ head.0) ++ mid = begins ∙ ap (λ (o : List ℕ). c ∷ o) head.1 in
    let whole : all ≡ ((c ∷ head.0) ++ body.0) ++ rest = first ∙ ap (λ (o : List ℕ). (c ∷ head.0) ++ o) body.1 ∙ sym (append_assoc (c ∷ head.0) body.0 rest) in
    let same : front ≡ (c ∷ head.0) ++ body.0 = append_cancel_right front _ rest (sym parts ∙ whole) in
    let fair : IsFair (forms.Dict size) = subst IsFair (sym is) (form_fair c) in
    let low_first : Low ((c ∷ head.0) ++ mid) = as_low all ((c ∷ head.0) ++ mid) first (low_octets all low) in
    let le = fair n (size_holds size head.0 n (low_front head.0 mid low_first.1) head.2) in
    let say = says (c ∷ head.0) first in
    rw same (dict-judged a b n (c ∷ head.0) body.0 d (omega (arith, le, size_octets size head.0 n head.2)) say.0 say.1 (judged d body.0 inside body.1))

-- where no list or map was read, a value was that nests nothing
pub nest-of-leaf : (value : List ℕ → Found tree.Data) (form : Form) (octets : List ℕ) (d : tree.Data) (rest : List ℕ) → leaf_at form octets ≡ Ok (d, rest) → written_nest_at value form octets ≡ leaf_at form octets
unfolding written_nest_at leaf_at
nest-of-leaf value forms.Null octets d rest e = refl
nest-of-leaf value (forms.Flag b) octets d rest e = refl
nest-of-leaf value (forms.Whole z) octets d rest e = refl
nest-of-leaf value (forms.Unsigned w) octets d rest e = refl
nest-of-leaf value (forms.Signed w) octets d rest e = refl
nest-of-leaf value (forms.Text size) octets d rest e = refl
nest-of-leaf value (forms.Bytes size) octets d rest e = refl
nest-of-leaf value (forms.List size) octets d rest e = absurd cc
nest-of-leaf value (forms.Dict size) octets d rest e = absurd cc
nest-of-leaf value (forms.Foreign size) octets d rest e = refl
nest-of-leaf value (forms.Float w) octets d rest e = refl
nest-of-leaf value forms.Never octets d rest e = refl

-- what holds of a result that is Ok, by what else holds of it
pub of-ok : {A E : Type 0} (r : Result A E) (P R : A → Type 0) → ((x : A) → P x → R x) → IfOk r P → IfOk r R
of-ok (Ok x) P R f p = f x p
of-ok (Err e) P R f p = p

pub of-both : {A E : Type 0} (r : Result A E) (P Q R : A → Type 0) → ((x : A) → P x → Q x → R x) → IfOk r P → IfOk r Q → IfOk r R
of-both (Ok x) P Q R f p q = f x p q
of-both (Err e) P Q R f p q = q

pub as-judged : (found other : Found tree.Data) (all rest : List ℕ) (b : Bool) → found ≡ other → IsFullyJudged found all rest b → IsFullyJudged other all rest b
as-judged found other all rest b same judged = subst (λ r. IsFullyJudged r all rest b) same judged
