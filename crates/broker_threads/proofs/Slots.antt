-- What stands at a place of a list, and beginnings of lists.
use Rattle.std.proofs.Common.{◌≡◌, ◌≤◌, ◌<◌, ℕ, zero, suc, true, false, List, [], ◌∷◌, ◌++◌, Option, None, Some, MatchOption, length, set, slice_get, refl, sym, ap, ◌∙◌, append_assoc, arith, subst}
use mathlib.Core.List.{IsPrefix}
use mathlib.Core.Logic.{◌⊎◌, inl, inr}
use Rattle.std.proofs.lemmas.List.{set-get_or}
use Rattle.std.proofs.lemmas.Option.{get_or_from_slice_get}

pub less_or_more : (i n : ℕ) → (i < n) ⊎ (n ≤ i)
less_or_more i n = search arith

-- a place that isn't there is behind the end
pub behind : (i n : ℕ) → (i < n → false ≡ true) → n ≤ i
behind i n h = by_end (less_or_more i n)
  where
    by_end : (i < n) ⊎ (n ≤ i) → n ≤ i
    by_end (inl less) = absurd (let e : false ≡ true = h less in cc)
    by_end (inr more) = more

-- a beginning of a list begins what is longer
pub prefix_on : {A : Type 0} (xs ys zs more : List A) → IsPrefix xs ys → zs ≡ ys ++ more → IsPrefix xs zs
prefix_on xs ys zs more p e = (p.0 ++ more, sym (append_assoc xs p.0 more) ∙ ap (λ l. l ++ more) p.1 ∙ sym e)

-- nothing is as long as nothing
pub none_left : {A : Type 0} (xs : List A) → length xs ≡ 0 → xs ≡ []
none_left [] e = refl
none_left (x ∷ xs) e = absurd (omega (arith, e))

module _ {P : Type 0} where
  -- what stood at a place is put there again
  pub put_back : (xs : List (Option P)) (i : ℕ) (p : Option P) → slice_get xs i ≡ Some p → set xs i p ≡ xs
  put_back xs i p e = subst (λ (o : Option P). set xs i o ≡ xs) (get_or_from_slice_get xs i p None e) (set-get_or xs i None)

  -- the last that is put at a place stands there
  pub put_twice : (xs : List (Option P)) (i : ℕ) (p q : Option P) → set (set xs i p) i q ≡ set xs i q
  put_twice [] i p q = refl
  put_twice (x ∷ xs) zero p q = refl
  put_twice (x ∷ xs) (suc i) p q = ap (λ ys. x ∷ ys) (put_twice xs i p q)

  -- what stands at a place is taken
  pub taken : (xs ys : List (Option P)) (i : ℕ) (o : Option P) → slice_get xs i ≡ Some o → ys ≡ set xs i None → MatchOption o (ys ≡ xs) (λ p. (slice_get xs i ≡ Some (Some p)) × (ys ≡ set xs i None))
  taken xs ys i None at e = e ∙ put_back xs i None at
  taken xs ys i (Some p) at e = (at, e)
