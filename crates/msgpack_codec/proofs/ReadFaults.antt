-- Which fault reading gives short of nested values.
use Rattle.std.proofs.Common.{◌≡◌, ℕ, pos, Bool, true, false, cond, ltb, List, length, take, drop, Result, Ok, Err, ◌⊎◌, inl, inr, refl}
use Rattle.std.specs.Int.{byte_len, from_be_bytes}
use Rattle.message_tree.specs.Data as tree
use Rattle.msgpack_codec.specs.declared.fault.Fault.{Fault}
use Rattle.msgpack_codec.specs.declared.fault.Fault.TheVariants.{Malformed, TooDeep, UncarriedLeaf}
use Rattle.msgpack_codec.specs.declared.format.Form.{Form}
use Rattle.msgpack_codec.specs.declared.format.Form.TheVariants as forms
use Rattle.msgpack_codec.specs.declared.format.Size.{Size}
use Rattle.msgpack_codec.specs.declared.format.Size.TheVariants.{Here, Next}
use Rattle.msgpack_codec.specs.declared.format.Width.{Width}
use Rattle.msgpack_codec.specs.Format.{bits_of}
use Rattle.msgpack_codec.specs.body.Decoder.{◌>>=◌, octets_at, number_at, size_at, sized_at, leaf_at}
use Rattle.msgpack_codec.specs.Values.{signed_from, text_from}
use Rattle.msgpack_codec.specs.Grammar.{Opens}
use Rattle.msgpack_codec.proofs.ReadIsSpelled.{read}

-- a step that failed, or a later one
pub bind_err : {A B : Type 0} (r : Result A Fault) (f : A → Result B Fault) (e : Fault) → (r >>= f) ≡ Err e → (r ≡ Err e) ⊎ ((x : A) × (r ≡ Ok x) × (f x ≡ Err e))
bind_err (Ok x) f e h = inr (x, refl, h)
bind_err (Err d) f e h = inl cc

guard_fails : {A : Type 0} (b : Bool) (x : A) (e : Fault) → cond b (Err Malformed) (Ok x) ≡ Err e → e ≡ Malformed
guard_fails true x e h = cc
guard_fails false x e h = absurd cc

pub octets_fails : (n : ℕ) (octets : List ℕ) (e : Fault) → octets_at n octets ≡ Err e → e ≡ Malformed
octets_fails n octets e h = guard_fails (ltb (length octets) n) (take n octets, drop n octets) e h

pub number_fails : (w : Width) (octets : List ℕ) (e : Fault) → number_at w octets ≡ Err e → e ≡ Malformed
number_fails w octets e h = guard_fails (ltb (length octets) (byte_len (bits_of w))) (from_be_bytes (bits_of w) (take (byte_len (bits_of w)) octets), drop (byte_len (bits_of w)) octets) e h

pub size_fails : (size : Size) (octets : List ℕ) (e : Fault) → size_at size octets ≡ Err e → e ≡ Malformed
unfolding size_at
size_fails (Here n) octets e h = absurd cc
size_fails (Next w) octets e h = number_fails w octets e h

sized_fails : (size : Size) (octets : List ℕ) (e : Fault) → sized_at size octets ≡ Err e → e ≡ Malformed
unfolding sized_at
sized_fails size octets e h =
    elim (bind_err (size_at size octets) (λ n. octets_at n.0 n.1) e h) [ inl first ↦ size_fails size octets e first | inr p ↦ octets_fails p.0.0 p.0.1 e p.2 ]

-- a leaf's fault: it is malformed, or it is no leaf
leaf_fails : (form : Form) (octets : List ℕ) (e : Fault) → leaf_at form octets ≡ Err e → (e ≡ Malformed) ⊎ ((e ≡ TooDeep) × Opens form)
unfolding leaf_at
leaf_fails forms.Null octets e h = absurd cc
leaf_fails (forms.Flag b) octets e h = absurd cc
leaf_fails (forms.Whole z) octets e h = absurd cc
leaf_fails (forms.Unsigned w) octets e h =
    elim (bind_err (number_at w octets) (λ n. read {A = tree.Data} (tree.whole (pos n.0)) n.1) e h) [ inl first ↦ inl (number_fails w octets e first) | inr p ↦ absurd (cc (p.2)) ]
leaf_fails (forms.Signed w) octets e h =
    elim (bind_err (number_at w octets) (λ n. read {A = tree.Data} (tree.whole (signed_from w n.0)) n.1) e h) [ inl first ↦ inl (number_fails w octets e first) | inr p ↦ absurd (cc (p.2)) ]
leaf_fails (forms.Text size) octets e h =
    elim (bind_err (sized_at size octets) (λ s. read {A = tree.Data} (text_from s.0) s.1) e h) [ inl first ↦ inl (sized_fails size octets e first) | inr p ↦ absurd (cc (p.2)) ]
leaf_fails (forms.Bytes size) octets e h =
    elim (bind_err (sized_at size octets) (λ s. read {A = tree.Data} (tree.bytes s.0) s.1) e h) [ inl first ↦ inl (sized_fails size octets e first) | inr p ↦ absurd (cc (p.2)) ]
leaf_fails (forms.List size) octets e h = inr (cc, tt)
leaf_fails (forms.Dict size) octets e h = inr (cc, tt)
leaf_fails (forms.Foreign size) octets e h =
    elim (bind_err (size_at size octets) (λ n. octets_at 1 n.1 >>= λ k. octets_at n.0 k.1 >>= λ s. read {A = tree.Data} tree.uncarried s.1) e h) [
      | inl first ↦ inl (size_fails size octets e first)
      | inr p ↦ elim (bind_err (octets_at 1 p.0.1) (λ k. octets_at p.0.0 k.1 >>= λ s. read {A = tree.Data} tree.uncarried s.1) e p.2) [
        | inl second ↦ inl (octets_fails 1 p.0.1 e second)
        | inr q ↦ elim (bind_err (octets_at p.0.0 q.0.1) (λ s. read {A = tree.Data} tree.uncarried s.1) e q.2) [ inl third ↦ inl (octets_fails p.0.0 q.0.1 e third) | inr r ↦ absurd (cc (r.2)) ]
      ]
    ]
leaf_fails (forms.Float w) octets e h =
    elim (bind_err (number_at w octets) (λ n. read {A = tree.Data} tree.uncarried n.1) e h) [ inl first ↦ inl (number_fails w octets e first) | inr p ↦ absurd (cc (p.2)) ]
leaf_fails forms.Never octets e h = inl cc

pub leaf_deep : (form : Form) (octets : List ℕ) → leaf_at form octets ≡ Err TooDeep → Opens form
leaf_deep form octets h = elim (leaf_fails form octets TooDeep h) [ inl e ↦ absurd cc | inr p ↦ p.1 ]

pub leaf_carried : (form : Form) (octets : List ℕ) → leaf_at form octets ≡ Err UncarriedLeaf → ⊥
leaf_carried form octets h = elim (leaf_fails form octets UncarriedLeaf h) [ inl e ↦ cc | inr p ↦ cc (p.0) ]
