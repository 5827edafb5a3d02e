-- A search among places that stand in the order of their texts.
use Rattle.std.proofs.Common.{◌≡◌, ◌≤◌, ◌+◌, ℕ, List, length, get_or, true, false, Result, Ok, Err, refl, sym, ap, ◌∙◌, arith, inl, inr}
use Rattle.std.specs.Ordering.{nat_cmp, is_lt, is_eq, ordering_index, ordering_reverse}
use Rattle.std.specs.declared.cmp.Ordering.{Ordering}
use Rattle.std.specs.declared.cmp.Ordering.TheVariants.{Less, Equal, Greater}
use Rattle.std.specs.Cmp.{IsTotalOrder}
use Rattle.std.specs.Cmp.Lexicographic.{slice_cmp}
use Rattle.std.specs.List.Sorted.{IsBinarySearchResult, IsSearchInRange, IsNonDecreasingBy, IsSorted, IsStrictlySortedBy}
use Rattle.std.specs.Result.{is_ok}
use Rattle.std.specs.Str.{bytes_eq}
use Rattle.std.proofs.lemmas.Bool.{cases_lt}
use Rattle.std.proofs.lemmas.Cmp.{nat_list_cmp_total, on_total}
use Rattle.std.proofs.lemmas.List.Folds.{list_any_at, list_any_none}
use Rattle.std.proofs.lemmas.List.Sorted.{IsNonDecreasingBy-from_all_adjacent}
use Rattle.std.proofs.lemmas.Map.Keys.{Less-from_sorted}
use Rattle.std.proofs.lemmas.Map.Text.{is_eq-slice_cmp}
use Rattle.eligibility.specs.body.Standing.{text_at, place_cmp, stands, IsOrdered}

module _ {K : Type 0} {R : K → K → Ordering} (total : IsTotalOrder R) where
  less-behind : (x y : K) → R x y ≡ Greater → is_lt (R y x) ≡ false → ⊥
  less-behind x y e nay =
      let f = total.antisymm y x ∙ ap ordering_reverse e in
      let g : true ≡ false = sym (ap is_lt f) ∙ nay in
      cc

  pub ranks : (x y s : K) (a b : Ordering) → R x s ≡ a → R y s ≡ b → is_lt (R y x) ≡ false → ordering_index a ≤ ordering_index b
  ranks x y s Less b e f nay = omega arith
  ranks x y s Equal Less e f nay = absurd (less-behind x y (total.congr x s y e ∙ (total.antisymm s y ∙ ap ordering_reverse f)) nay)
  ranks x y s Equal Equal e f nay = omega arith
  ranks x y s Equal Greater e f nay = omega arith
  ranks x y s Greater Less e f nay =
      let less = total.trans y s x f (total.antisymm s x ∙ ap ordering_reverse e) in
      let g : true ≡ false = sym (ap is_lt less) ∙ nay in
      absurd cc
  ranks x y s Greater Equal e f nay =
      let less = total.congr y s x f ∙ (total.antisymm s x ∙ ap ordering_reverse e) in
      let g : true ≡ false = sym (ap is_lt less) ∙ nay in
      absurd cc
  ranks x y s Greater Greater e f nay = omega arith

  -- what rises doesn't fall
  pub sorted-too : (xs : List K) → IsStrictlySortedBy R xs → IsSorted R xs
  sorted-too xs rises = λ k d from within.
      ap is_lt (total.antisymm (get_or xs (k + 1) d) (get_or xs k d) ∙ ap ordering_reverse (Less-from_sorted R xs k (k + 1) d rises (omega arith) within))

pub places-total : (octets : List ℕ) → IsTotalOrder (place_cmp octets)
places-total octets = on_total (text_at octets) nat_list_cmp_total

-- how the text at a place compares with another
abbrev pub against : List ℕ → List ℕ → ℕ → Ordering
against octets s p = slice_cmp nat_cmp (text_at octets p) s

rising : (octets places s : List ℕ) → IsOrdered octets places → IsNonDecreasingBy (λ p. ordering_index (against octets s p)) places
rising octets places s ordered =
    let sorted = sorted-too (places-total octets) places ordered in
    IsNonDecreasingBy-from_all_adjacent (λ p. ordering_index (against octets s p)) places
    (λ k d lt. ranks nat_list_cmp_total (text_at octets (get_or places k d)) (text_at octets (get_or places (k + 1) d)) s _ _ refl refl (sorted k d (omega arith) lt))

is-there : (octets s : List ℕ) (p : ℕ) (o : Ordering) → against octets s p ≡ o → bytes_eq (text_at octets p) s ≡ is_eq o
is-there octets s p o e = sym (is_eq-slice_cmp (text_at octets p) s) ∙ ap is_eq e

pub found : (octets places s : List ℕ) (r : Result ℕ ℕ) → IsOrdered octets places → IsBinarySearchResult (against octets s) places r → IsSearchInRange r (length places) → is_ok r ≡ stands octets places s
found octets places s (Ok i) ordered at within = sym (list_any_at (λ p. bytes_eq (text_at octets p) s) places i 0 within (is-there octets s (get_or places i 0) Equal (at 0)))
found octets places s (Err i) ordered apart within =
    let parts = apart (rising octets places s ordered) in
    sym (list_any_none (λ p. bytes_eq (text_at octets p) s) places (λ k d lt. elim (cases_lt k i) [
      | inl below ↦ is-there octets s (get_or places k d) Less (parts.0 k d (omega arith) below)
      | inr above ↦ is-there octets s (get_or places k d) Greater (parts.1 k d above lt)
    ]))
