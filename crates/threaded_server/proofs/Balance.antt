-- How a table stays balanced: what came is what went and what still stands in the places, in some order.
use Rattle.std.proofs.Common.{◌≡◌, ℕ, zero, suc, List, [], ◌∷◌, ◌++◌, map, set, length, replicate, slice_get, Option, Some, None, All, IsPermutation, refl, sym, ◌∙◌, subst, append_assoc, append-nil}
use Rattle.std.proofs.Math.Logic.{∥∥₁_map, ∥∥₁_elim}
use Rattle.std.proofs.Math.Nat.{ℕ_set}
use Rattle.std.proofs.lemmas.Option.{slice_get_within, get_or_from_slice_get}
use Rattle.std.proofs.lemmas.List.Sorted.{IsPermutation-refl, IsPermutation-sym, IsPermutation-trans, IsPermutation-cons, IsPermutation-map, IsPermutation-middle, IsPermutation-append_right, IsPermutation-push_more, IsPermutation-pop_more, length_permutation}
use Rattle.threaded_server.specs.Slots.{in_slots, Balances}

-- where no place is taken, nothing stands in the places
pub none_in_slots : {A : Type 0} (slots : List (Option A)) → ((i : ℕ) (o : Option A) → slice_get slots i ≡ Some o → o ≡ None) → in_slots slots ≡ []
none_in_slots [] free = refl
none_in_slots (None ∷ slots) free = none_in_slots slots (λ i o h. free (suc i) o h)
none_in_slots (Some a ∷ slots) free = let taken : Some a ≡ None = free zero (Some a) refl in cc

-- the same, where `All` says that no place is taken
pub all_none_in_slots : {A : Type 0} (slots : List (Option A)) → All (λ o. o ≡ None) slots → in_slots slots ≡ []
all_none_in_slots slots free =
    none_in_slots slots (λ i o h. sym (get_or_from_slice_get slots i o o h) ∙ free i o (slice_get_within slots i o h))

-- the same, for a new table of n places
pub new_in_slots : {A : Type 0} (n : ℕ) → in_slots {A = A} (replicate n None) ≡ []
new_in_slots zero = refl
new_in_slots (suc n) = new_in_slots n

-- before anything came, a table with no place taken is balanced
pub none_came : {A B : Type 0} (f : A → B) (slots : List (Option A)) → ((i : ℕ) (o : Option A) → slice_get slots i ≡ Some o → o ≡ None)
    → Balances [] [] (map f (in_slots slots))
none_came f slots free = subst (λ there. Balances [] [] (map f there)) (sym (none_in_slots slots free)) (IsPermutation-refl [])

-- the same, where `All` says that no place is taken
pub all_none_came : {A B : Type 0} (f : A → B) (slots : List (Option A)) → All (λ o. o ≡ None) slots → Balances [] [] (map f (in_slots slots))
all_none_came f slots free = subst (λ there. Balances [] [] (map f there)) (sym (all_none_in_slots slots free)) (IsPermutation-refl [])

-- a free place that a takes: what stands in the places is a and what stood there before, in some order
pub filled : {A : Type 0} (slots : List (Option A)) (i : ℕ) (a : A) → slice_get slots i ≡ Some None
    → IsPermutation (a ∷ in_slots slots) (in_slots (set slots i (Some a)))
filled [] i a free = cc
filled (None ∷ slots) zero a free = IsPermutation-refl (a ∷ in_slots slots)
filled (Some b ∷ slots) zero a free = cc
filled (None ∷ slots) (suc i) a free = filled slots i a free
filled (Some b ∷ slots) (suc i) a free =
    IsPermutation-trans _ _ _ (IsPermutation-sym _ _ (IsPermutation-middle (b ∷ []) a (in_slots slots)))
    (IsPermutation-cons b _ _ (filled slots i a free))

-- a place that a leaves: what stood in the places is a and what stands there now, in some order
pub emptied : {A : Type 0} (slots : List (Option A)) (i : ℕ) (a : A) → slice_get slots i ≡ Some (Some a)
    → IsPermutation (in_slots slots) (a ∷ in_slots (set slots i None))
emptied [] i a held = cc
emptied (None ∷ slots) zero a held = cc
emptied (Some b ∷ slots) zero a held =
    let same : b ≡ a = cc in subst (λ c. IsPermutation (b ∷ in_slots slots) (c ∷ in_slots slots)) same (IsPermutation-refl (b ∷ in_slots slots))
emptied (None ∷ slots) (suc i) a held = emptied slots i a held
emptied (Some b ∷ slots) (suc i) a held =
    IsPermutation-trans _ _ _ (IsPermutation-cons b _ _ (emptied slots i a held))
    (IsPermutation-middle (b ∷ []) a (in_slots (set slots i None)))

-- one comes and takes a free place
pub seated : {A B : Type 0} (f : A → B) (came went : List B) (slots : List (Option A)) (i : ℕ) (a : A) → slice_get slots i ≡ Some None
    → Balances came went (map f (in_slots slots)) → Balances (came ++ f a ∷ []) went (map f (in_slots (set slots i (Some a))))
seated f came went slots i a free balances =
    IsPermutation-push_more came (went ++ map f (in_slots slots)) _ (f a) balances
    (IsPermutation-trans _ _ _ (IsPermutation-sym _ _ (IsPermutation-middle went (f a) (map f (in_slots slots))))
    (IsPermutation-append_right went _ _ (IsPermutation-map f _ _ (filled slots i a free))))

-- one leaves its place and goes
pub gone : {A B : Type 0} (f : A → B) (came went : List B) (slots : List (Option A)) (i : ℕ) (a : A) → slice_get slots i ≡ Some (Some a)
    → Balances came went (map f (in_slots slots)) → Balances came (went ++ f a ∷ []) (map f (in_slots (set slots i None)))
gone f came went slots i a held balances =
    IsPermutation-pop_more came went (map f (in_slots slots)) _ (f a) balances (IsPermutation-map f _ _ (emptied slots i a held))

-- one comes and goes at once, and takes no place
pub passed : {B : Type 0} (came went there : List B) (b : B) → Balances came went there → Balances (came ++ b ∷ []) (went ++ b ∷ []) there
passed came went there b balances =
    IsPermutation-push_more came (went ++ there) _ b balances
    (rw (append_assoc went (b ∷ []) there) (IsPermutation-sym _ _ (IsPermutation-middle went b there)))

-- where nothing is still there, all that came went
pub all_went : {B : Type 0} (came went : List B) → Balances came went [] → IsPermutation came went
all_went came went balances = rw (append-nil went) at balances

-- The lemmas below say the same of what a ghost field keeps. Which exchanges an `IsPermutation` lists is a choice, so it has many proofs, and a
-- ghost field may have one at most: it keeps that some proof is there, `∥ .. ∥₁`.

-- before anything came, a table with no place taken is balanced
pub none_came_ : {A B : Type 0} (f : A → B) (slots : List (Option A)) → ((i : ℕ) (o : Option A) → slice_get slots i ≡ Some o → o ≡ None)
    → ∥ Balances [] [] (map f (in_slots slots)) ∥₁
none_came_ f slots free = ∣ none_came f slots free ∣₁

-- the same, where `All` says that no place is taken
pub all_none_came_ : {A B : Type 0} (f : A → B) (slots : List (Option A)) → All (λ o. o ≡ None) slots → ∥ Balances [] [] (map f (in_slots slots)) ∥₁
all_none_came_ f slots free = ∣ all_none_came f slots free ∣₁

-- one comes and takes a free place
pub seated_ : {A B : Type 0} (f : A → B) (came went : List B) (slots : List (Option A)) (i : ℕ) (a : A) → slice_get slots i ≡ Some None
    → ∥ Balances came went (map f (in_slots slots)) ∥₁ → ∥ Balances (came ++ f a ∷ []) went (map f (in_slots (set slots i (Some a)))) ∥₁
seated_ f came went slots i a free balances = ∥∥₁_map balances (seated f came went slots i a free)

-- one leaves its place and goes
pub gone_ : {A B : Type 0} (f : A → B) (came went : List B) (slots : List (Option A)) (i : ℕ) (a : A) → slice_get slots i ≡ Some (Some a)
    → ∥ Balances came went (map f (in_slots slots)) ∥₁ → ∥ Balances came (went ++ f a ∷ []) (map f (in_slots (set slots i None))) ∥₁
gone_ f came went slots i a held balances = ∥∥₁_map balances (gone f came went slots i a held)

-- one comes and goes at once, and takes no place
pub passed_ : {B : Type 0} (came went there : List B) (b : B) → ∥ Balances came went there ∥₁ → ∥ Balances (came ++ b ∷ []) (went ++ b ∷ []) there ∥₁
passed_ came went there b balances = ∥∥₁_map balances (passed came went there b)

-- where nothing is still there, all that came went
pub all_went_ : {B : Type 0} (came went : List B) → ∥ Balances came went [] ∥₁ → ∥ IsPermutation came went ∥₁
all_went_ came went balances = ∥∥₁_map balances (all_went came went)

-- where all that came went, as many went as came
pub emptied_length_ : {B : Type 0} (came went : List B) → ∥ IsPermutation came went ∥₁ → length came ≡ length went
emptied_length_ came went all = ∥∥₁_elim all (ℕ_set _ _) (λ h. sym (length_permutation came went h))
