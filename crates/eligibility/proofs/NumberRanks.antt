-- A search among numbers that stand in their order.
use Rattle.std.proofs.Common.{◌≡◌, ◌<◌, ◌+◌, ◌==◌, ℕ, List, length, get_or, true, false, Result, Ok, Err, refl, sym, arith, inl, inr}
use Rattle.std.specs.Ordering.{nat_cmp}
use Rattle.std.specs.declared.cmp.Ordering.TheVariants.{Less, Equal, Greater}
use Rattle.std.specs.List.{list_any}
use Rattle.std.specs.List.Sorted.{IsBinarySearchResult, IsNonDecreasingBy, IsSearchInRange, IsStrictlySortedBy}
use Rattle.std.specs.Ordering.{ordering_index}
use Rattle.std.specs.Result.{is_ok}
use Rattle.std.proofs.lemmas.Bool.{cases_lt}
use Rattle.std.proofs.lemmas.Bool.Decides.{nat_tests}
use Rattle.std.proofs.lemmas.Cmp.{nat_cmp_total, ranked}
use Rattle.std.proofs.lemmas.List.Folds.{list_any_at, list_any_none}
use Rattle.std.proofs.lemmas.List.Sorted.{IsNonDecreasingBy-from_all_adjacent}
use Rattle.eligibility.proofs.Ranks.{ranks, sorted-too}

is-one : (y x : ℕ) → y ≡ x → (y == x) ≡ true
is-one y x e = grind (arith, nat_tests)

is-below : (y x : ℕ) → y < x → (y == x) ≡ false
is-below y x lt = grind (arith, nat_tests)

is-above : (y x : ℕ) → x < y → (y == x) ≡ false
is-above y x lt = grind (arith, nat_tests)

rising : (xs : List ℕ) (x : ℕ) → IsStrictlySortedBy nat_cmp xs → IsNonDecreasingBy (λ y. ordering_index (nat_cmp y x)) xs
rising xs x ordered =
    let sorted = sorted-too nat_cmp_total xs ordered in
    IsNonDecreasingBy-from_all_adjacent (λ y. ordering_index (nat_cmp y x)) xs
    (λ k d lt. ranks nat_cmp_total (get_or xs k d) (get_or xs (k + 1) d) x _ _ refl refl (sorted k d (omega arith) lt))

pub found-number : (xs : List ℕ) (x : ℕ) (r : Result ℕ ℕ) → IsStrictlySortedBy nat_cmp xs → IsBinarySearchResult (λ y. nat_cmp y x) xs r → IsSearchInRange r (length xs) → is_ok r ≡ list_any (λ n. n == x) xs
found-number xs x (Ok i) ordered at within = sym (list_any_at (λ n. n == x) xs i 0 within (is-one (get_or xs i 0) x (ranked (get_or xs i 0) x Equal (sym (at 0)))))
found-number xs x (Err i) ordered apart within =
    let parts = apart (rising xs x ordered) in
    sym (list_any_none (λ n. n == x) xs (λ k d lt. elim (cases_lt k i) [
      | inl below ↦ is-below (get_or xs k d) x (ranked (get_or xs k d) x Less (sym (parts.0 k d (omega arith) below)))
      | inr above ↦ is-above (get_or xs k d) x (ranked (get_or xs k d) x Greater (sym (parts.1 k d above lt)))
    ]))
