-- Streams that are lent under names of their own, one after another.
use Rattle.std.proofs.Common.{◌≡◌, ◌+◌, ◌<◌, ◌⊎◌, ℕ, List, [], ◌∷◌, ◌++◌, Some, length, slice_get, inl, inr, refl, sym, ap, ◌∙◌, subst, arith}
use Rattle.std.proofs.lemmas.Option.{none-some}
use Rattle.threaded_server.proofs.Places.{get_push_cases}
use Rattle.threaded_server.specs.Named.{AreNamed}

module _ {A : Type 0} (read written : A → ℕ) where
  pub none_named : (next : ℕ) → AreNamed [] next read written
  none_named next = record { below = λ i a at. absurd (none-some a at); one = λ i a at. absurd (none-some a at); apart = λ i j a b at there e. absurd (none-some a at) }

  -- the next name is later
  pub named_later : (lent : List A) (next : ℕ) → AreNamed lent next read written → AreNamed lent (next + 1) read written
  named_later lent next h = record { below = λ i a at. let less : read a < next = h.below i a at in omega arith; one = h.one; apart = h.apart }

  -- one more is lent, under the next name
  pub one_named : (lent : List A) (a : A) (made : ℕ) → AreNamed lent made read written → read a ≡ made → written a ≡ made → AreNamed (lent ++ a ∷ []) (made + 1) read written
  one_named lent a made h r w = record {
    below = λ i b at. below_of i b (get_push_cases lent a b i at);
    one = λ i b at. one_of i b (get_push_cases lent a b i at);
    apart = λ i j b c at there e. apart_of i j b c (get_push_cases lent a b i at) (get_push_cases lent a c j there) e;
  }
    where
      below_of : (i : ℕ) (b : A) → ((i ≡ length lent) × (a ≡ b)) ⊎ (slice_get lent i ≡ Some b) → read b < made + 1
      below_of i b (inl s) = let same : read a ≡ read b = ap read s.1 in omega arith
      below_of i b (inr at) = let less : read b < made = h.below i b at in omega arith

      one_of : (i : ℕ) (b : A) → ((i ≡ length lent) × (a ≡ b)) ⊎ (slice_get lent i ≡ Some b) → written b ≡ read b
      one_of i b (inl s) = subst (λ (x : A). written x ≡ read x) s.1 (w ∙ sym r)
      one_of i b (inr at) = h.one i b at

      apart_of : (i j : ℕ) (b c : A) → ((i ≡ length lent) × (a ≡ b)) ⊎ (slice_get lent i ≡ Some b) → ((j ≡ length lent) × (a ≡ c)) ⊎ (slice_get lent j ≡ Some c) → read b ≡ read c → i ≡ j
      apart_of i j b c (inl s) (inl t) e = s.0 ∙ sym t.0
      apart_of i j b c (inl s) (inr there) e = let less : read c < made = h.below j c there in let same : read a ≡ read b = ap read s.1 in absurd (omega arith)
      apart_of i j b c (inr at) (inl t) e = let less : read b < made = h.below i b at in let same : read a ≡ read c = ap read t.1 in absurd (omega arith)
      apart_of i j b c (inr at) (inr there) e = h.apart i j b c at there e
