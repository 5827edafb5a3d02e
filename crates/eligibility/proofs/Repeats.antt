-- What is left of a list of which each is to be kept once.
use Rattle.std.proofs.Common.{◌≡◌, ℕ, List, [], ◌∷◌, Bool, true, false, cond, ◌||◌, ◌==◌, eqb, refl, sym, ap, ◌∙◌, arith}
use Rattle.std.specs.List.{list_any, dedup, dedup_from}
use Rattle.std.specs.Ordering.{nat_cmp, eq_by_cmp}
use Rattle.std.specs.Str.{bytes_eq}
use Rattle.std.proofs.Math.Bool.{or_self_left}
use Rattle.std.proofs.lemmas.Bool.{eqb-true}
use Rattle.std.proofs.lemmas.Bool.Decides.{nat_tests}
use Rattle.std.proofs.lemmas.Map.Text.{is_eq-slice_cmp}
use Rattle.std.proofs.lemmas.Slice.Eq.{bytes_eq-Decides}
use Rattle.eligibility.specs.body.Standing.{text_at, place_cmp, stands}

-- the test says the same of those that count as the same
module _ {X : Type 0} (same : X → X → Bool) (test : X → Bool) (alike : (x y : X) → same x y ≡ true → test x ≡ test y) where
  any-dedup_from : (k : X) (xs : List X) → list_any test (dedup_from same k xs) ≡ test k || list_any test xs
  any-dedup_from k [] = refl
  any-dedup_from k (x ∷ xs) = by_value (any-dedup_from k xs) (any-dedup_from x xs) (same x k) refl
    where
      by_value : list_any test (dedup_from same k xs) ≡ test k || list_any test xs → list_any test (dedup_from same x xs) ≡ test x || list_any test xs
          → (b : Bool) → same x k ≡ b → list_any test (cond b (dedup_from same k xs) (k ∷ dedup_from same x xs)) ≡ test k || (test x || list_any test xs)
      by_value one other true h = one ∙ sym (ap (λ b. test k || (b || list_any test xs)) (alike x k h) ∙ or_self_left (test k) (list_any test xs))
      by_value one other false h = ap (λ b. test k || b) other

  pub any-dedup : (xs : List X) → list_any test (dedup same xs) ≡ list_any test xs
  any-dedup [] = refl
  any-dedup (x ∷ xs) = any-dedup_from x xs

pub number-left : (q : ℕ) (xs : List ℕ) → list_any (λ n. n == q) (dedup eqb xs) ≡ list_any (λ n. n == q) xs
number-left q xs = any-dedup eqb (λ n. n == q) (λ x y e. ap (λ n. n == q) (eqb-true x y e)) xs

pub number-ties : (x y : ℕ) → eqb x y ≡ eq_by_cmp nat_cmp x y
number-ties x y = grind (arith, nat_tests)

same-text : (octets : List ℕ) (p q : ℕ) → eq_by_cmp (place_cmp octets) p q ≡ true → text_at octets p ≡ text_at octets q
same-text octets p q e = (bytes_eq-Decides (text_at octets p) (text_at octets q)).0 (sym (is_eq-slice_cmp (text_at octets p) (text_at octets q)) ∙ e)

pub text-left : (octets places s : List ℕ) → stands octets (dedup (eq_by_cmp (place_cmp octets)) places) s ≡ stands octets places s
text-left octets places s =
    any-dedup (eq_by_cmp (place_cmp octets)) (λ p. bytes_eq (text_at octets p) s) (λ p q e. ap (λ t. bytes_eq t s) (same-text octets p q e)) places
