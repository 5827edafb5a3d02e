-- Connections, ascending: where one stands, where one belongs, and what an edit leaves.
use Rattle.std.proofs.Common.{◌≡◌, ℕ, zero, suc, ◌<◌, ◌≤◌, Bool, true, false, cond, eqb, ◌||◌, List, [], ◌∷◌, length, get_or, refl, sym, ap, ◌∙◌, Result, Ok, Err, arith}
use Rattle.std.specs.Prelude.{MatchResult}
use Rattle.std.specs.List.{filter, insert}
use Rattle.std.specs.List.Sorted.{IsSearchInRange, IsBinarySearchResult, IsNonDecreasingBy}
use Rattle.std.specs.Ordering.{nat_cmp, ordering_index}
use Rattle.std.proofs.lemmas.Cmp.{ranked}
use Rattle.std.proofs.lemmas.Bool.{eq-eqb, or_left, or_right}
use Rattle.std.proofs.lemmas.Bool.Decides.{nat_tests}
use Rattle.subscription_index.specs.body.Found.{has}
use Rattle.subscription_index.specs.body.Conns.{IsBelowAll, AreAscending, BelongsAt}

-- ---- order

below-more : (c d : ℕ) (xs : List ℕ) → c < d → IsBelowAll d xs → IsBelowAll c xs
below-more c d [] less below = tt
below-more c d (x ∷ xs) less below = (omega (arith, below.0), below-more c d xs less below.1)

below-at : (c : ℕ) (xs : List ℕ) (k d : ℕ) → IsBelowAll c xs → k < length xs → c < get_or xs k d
below-at c [] k d below small = absurd (omega arith)
below-at c (x ∷ xs) zero d below small = below.0
below-at c (x ∷ xs) (suc k) d below small = below-at c xs k d below.1 (omega arith)

rising : (xs : List ℕ) (i j d : ℕ) → AreAscending xs → i ≤ j → j < length xs → get_or xs i d ≤ get_or xs j d
rising [] i j d ascending le small = absurd (omega arith)
rising (x ∷ xs) zero zero d ascending le small = omega arith
rising (x ∷ xs) zero (suc j) d ascending le small = let less : x < get_or xs j d = below-at x xs j d ascending.0 (omega arith) in omega arith
rising (x ∷ xs) (suc i) zero d ascending le small = absurd (omega arith)
rising (x ∷ xs) (suc i) (suc j) d ascending le small = rising xs i j d ascending.1 (omega arith) (omega arith)

-- ---- edits

below-filter : (c : ℕ) (f : ℕ → Bool) (xs : List ℕ) → IsBelowAll c xs → IsBelowAll c (filter f xs)
below-filter c f [] below = tt
below-filter c f (x ∷ xs) below = at (f x) (below-filter c f xs below.1)
  where
    at : (kept : Bool) → IsBelowAll c (filter f xs) → IsBelowAll c (cond kept (x ∷ filter f xs) (filter f xs))
    at true rest = (below.0, rest)
    at false rest = rest

pub ascending-kept : (f : ℕ → Bool) (xs : List ℕ) → AreAscending xs → AreAscending (filter f xs)
ascending-kept f [] ascending = tt
ascending-kept f (x ∷ xs) ascending = at (f x) (ascending-kept f xs ascending.1)
  where
    at : (kept : Bool) → AreAscending (filter f xs) → AreAscending (cond kept (x ∷ filter f xs) (filter f xs))
    at true rest = (below-filter x f xs ascending.0, rest)
    at false rest = rest

below-insert : (b c : ℕ) (xs : List ℕ) (i : ℕ) → b < c → IsBelowAll b xs → IsBelowAll b (insert xs i c)
below-insert b c [] zero less below = (less, tt)
below-insert b c [] (suc i) less below = (less, tt)
below-insert b c (x ∷ xs) zero less below = (less, below)
below-insert b c (x ∷ xs) (suc i) less below = (below.0, below-insert b c xs i less below.1)

put : (xs : List ℕ) (i c : ℕ) → AreAscending xs → i ≤ length xs → ((k : ℕ) → k < i → get_or xs k 0 < c) → ((k : ℕ) → i ≤ k → k < length xs → c < get_or xs k 0)
    → AreAscending (insert xs i c)
put [] zero c ascending within before after = (tt, tt)
put [] (suc i) c ascending within before after = (tt, tt)
put (x ∷ xs) zero c ascending within before after =
    let above : c < x = after zero (omega arith) (omega arith) in
    ((above, below-more c x xs above ascending.0), ascending)
put (x ∷ xs) (suc i) c ascending within before after = (
  below-insert x c xs i (before zero (omega arith)) ascending.0,
  put xs i c ascending.1 (omega arith) (λ k small. before (suc k) (omega arith)) (λ k le small. after (suc k) (omega arith) (omega arith)),
)

pub ascending-insert : (xs : List ℕ) (i c : ℕ) → AreAscending xs → BelongsAt xs i c → AreAscending (insert xs i c)
ascending-insert xs i c ascending at = put xs i c ascending at.within at.before at.after

-- ---- a binary search

has-at : (xs : List ℕ) (i c : ℕ) → i < length xs → get_or xs i 0 ≡ c → has xs c ≡ true
has-at [] i c small is = absurd (omega arith)
has-at (x ∷ xs) zero c small is = or_left (eqb x c) (has xs c) (eq-eqb x c is)
has-at (x ∷ xs) (suc i) c small is = or_right (eqb x c) (has xs c) (has-at xs i c (omega arith) is)

comparisons-rise : (c : ℕ) (xs : List ℕ) → AreAscending xs → IsNonDecreasingBy (λ x. ordering_index (nat_cmp x c)) xs
comparisons-rise c xs ascending i j d le small = let order : get_or xs i d ≤ get_or xs j d = rising xs i j d ascending le small in grind (arith, nat_tests)

pub found-place : (xs : List ℕ) (c : ℕ) (r : Result ℕ ℕ) → AreAscending xs → IsSearchInRange r (length xs) → IsBinarySearchResult (λ x. nat_cmp x c) xs r
    → MatchResult r (λ i. has xs c ≡ true) (λ i. BelongsAt xs i c)
found-place xs c (Ok i) ascending range equal = has-at xs i c range (ranked _ c _ (sym (equal 0)))
found-place xs c (Err i) ascending range parted =
    let sides = parted (comparisons-rise c xs ascending) in
    record {
      within = range;
      before = λ k less. ranked _ c _ (sym (sides.0 k 0 (omega arith) less));
      after = λ k le small. ranked _ c _ (sym (sides.1 k 0 le small));
    }

-- what is there already
pub has-already : (xs : List ℕ) (conn c : ℕ) → has xs conn ≡ true → has xs c ≡ eqb conn c || has xs c
has-already xs conn c there = at (eqb conn c) refl
  where
    at : (b : Bool) → eqb conn c ≡ b → has xs c ≡ b || has xs c
    at true is = let same : conn ≡ c = grind (arith, nat_tests) in ap (has xs) (sym same) ∙ there
    at false is = refl
