-- What stands at a place of a list that changes.
use Rattle.std.proofs.Common.{◌≡◌, ◌≢◌, ◌≤◌, ◌<◌, ◌+◌, ℕ, zero, suc, List, [], ◌∷◌, ◌++◌, Option, None, Some, MatchOption, length, length-set, map, option_map, replicate, set, slice_get, refl, sym, ap, ◌∙◌, arith, subst}
use mathlib.Core.Logic.{◌⊎◌, inl, inr}
use Rattle.std.proofs.Math.Seq.{map-set_same}
use Rattle.std.proofs.lemmas.List.{get_or-replicate, length-replicate, replicate-append-replicate}
use Rattle.std.proofs.lemmas.Option.{none-some, same_Some, get_or_from_slice_get, slice_get-get_or, slice_get-map, slice_get_past, slice_get_within}
use Rattle.std.specs.Option.{option_flatten}

module _ {A : Type 0} where
  -- it stands there too where more comes behind
  pub get_more : (xs ys : List A) (i : ℕ) (a : A) → slice_get xs i ≡ Some a → slice_get (xs ++ ys) i ≡ Some a
  get_more [] ys i a e = absurd (none-some a e)
  get_more (x ∷ xs) ys zero a e = e
  get_more (x ∷ xs) ys (suc i) a e = get_more xs ys i a e

  pub get_last : (xs : List A) (a : A) → slice_get (xs ++ a ∷ []) (length xs) ≡ Some a
  get_last [] a = refl
  get_last (x ∷ xs) a = get_last xs a

  pub get_seam : (xs : List A) (a : A) (ys : List A) → slice_get (xs ++ a ∷ ys) (length xs) ≡ Some a
  get_seam [] a ys = refl
  get_seam (x ∷ xs) a ys = get_seam xs a ys

  -- one is put in the place of another
  pub get_set : (xs : List A) (i : ℕ) (a b : A) → slice_get xs i ≡ Some a → slice_get (set xs i b) i ≡ Some b
  get_set [] i a b e = absurd (none-some a e)
  get_set (x ∷ xs) zero a b e = refl
  get_set (x ∷ xs) (suc i) a b e = get_set xs i a b e

  pub set_there : (xs : List A) (i : ℕ) (b : A) → i < length xs → slice_get (set xs i b) i ≡ Some b
  set_there [] i b less = absurd (omega (arith, less))
  set_there (x ∷ xs) zero b less = refl
  set_there (x ∷ xs) (suc i) b less = set_there xs i b (omega (arith, less))

  -- what stands somewhere is what was put there, or stood there before
  pub get_set_cases : (xs : List A) (i j : ℕ) (b c : A) → slice_get (set xs i b) j ≡ Some c → ((i ≡ j) × (b ≡ c)) ⊎ ((i ≢ j) × (slice_get xs j ≡ Some c))
  get_set_cases [] i j b c e = absurd (none-some c e)
  get_set_cases (x ∷ xs) zero zero b c e = inl (refl, same_Some b c e)
  get_set_cases (x ∷ xs) zero (suc j) b c e = inr (λ same. omega (arith, same), e)
  get_set_cases (x ∷ xs) (suc i) zero b c e = inr (λ same. omega (arith, same), e)
  get_set_cases (x ∷ xs) (suc i) (suc j) b c e = deeper (get_set_cases xs i j b c e)
    where
      deeper : ((i ≡ j) × (b ≡ c)) ⊎ ((i ≢ j) × (slice_get xs j ≡ Some c)) → ((suc i ≡ suc j) × (b ≡ c)) ⊎ ((suc i ≢ suc j) × (slice_get xs j ≡ Some c))
      deeper (inl h) = inl (ap suc h.0, h.1)
      deeper (inr h) = inr (λ same. h.0 (omega (arith, same)), h.1)

  pub set_nowhere : (xs : List A) (i : ℕ) (b : A) → slice_get xs i ≡ None → set xs i b ≡ xs
  set_nowhere [] i b e = refl
  set_nowhere (x ∷ xs) zero b e = absurd (none-some x (sym e))
  set_nowhere (x ∷ xs) (suc i) b e = ap (λ l. x ∷ l) (set_nowhere xs i b e)

  -- nothing else changes
  pub get_other : (xs : List A) (i j : ℕ) (b : A) → j ≢ i → slice_get (set xs i b) j ≡ slice_get xs j
  get_other [] i j b other = refl
  get_other (x ∷ xs) zero zero b other = absurd (other refl)
  get_other (x ∷ xs) zero (suc j) b other = refl
  get_other (x ∷ xs) (suc i) zero b other = refl
  get_other (x ∷ xs) (suc i) (suc j) b other = get_other xs i j b (λ same. other (ap suc same))

  -- a list of the same, again and again
  pub get_same : (n i : ℕ) (a : A) → i < n → slice_get (replicate n a) i ≡ Some a
  get_same n i a less = slice_get-get_or (replicate n a) i a (subst (λ (m : ℕ). i < m) (sym (length-replicate n a)) less) ∙ ap Some (get_or-replicate n i a a less)

  pub only_there : (n i : ℕ) (a b : A) → slice_get (replicate n a) i ≡ Some b → a ≡ b
  only_there n i a b e = same_Some a b (sym (get_same n i a (subst (λ (m : ℕ). i < m) (length-replicate n a) (slice_get_within (replicate n a) i b e))) ∙ e)

  -- what stood somewhere was replaced, or stands there still
  pub get_before_set : (xs : List A) (i j : ℕ) (a b c : A) → slice_get xs i ≡ Some a → slice_get xs j ≡ Some c → ((a ≡ c) × (slice_get (set xs i b) j ≡ Some b)) ⊎ (slice_get (set xs i b) j ≡ Some c)
  get_before_set [] i j a b c e f = absurd (none-some a e)
  get_before_set (x ∷ xs) zero zero a b c e f = inl (sym (same_Some x a e) ∙ same_Some x c f, refl)
  get_before_set (x ∷ xs) zero (suc j) a b c e f = inr f
  get_before_set (x ∷ xs) (suc i) zero a b c e f = inr f
  get_before_set (x ∷ xs) (suc i) (suc j) a b c e f = get_before_set xs i j a b c e f

module _ {A : Type 0} where
  -- of one more behind a list
  pub get_push_cases : (xs : List A) (a b : A) (i : ℕ) → slice_get (xs ++ a ∷ []) i ≡ Some b → ((i ≡ length xs) × (a ≡ b)) ⊎ (slice_get xs i ≡ Some b)
  get_push_cases [] a b zero e = inl (refl, same_Some a b e)
  get_push_cases [] a b (suc i) e = absurd (none-some b e)
  get_push_cases (x ∷ xs) a b zero e = inr e
  get_push_cases (x ∷ xs) a b (suc i) e = deeper (get_push_cases xs a b i e)
    where
      deeper : ((i ≡ length xs) × (a ≡ b)) ⊎ (slice_get xs i ≡ Some b) → ((suc i ≡ suc (length xs)) × (a ≡ b)) ⊎ (slice_get xs i ≡ Some b)
      deeper (inl h) = inl (ap suc h.0, h.1)
      deeper (inr h) = inr h

-- what is found stands there
pub found_there : {A : Type 0} (o : Option (Option A)) (a : A) → option_flatten o ≡ Some a → o ≡ Some (Some a)
found_there None a e = absurd (none-some a e)
found_there (Some slot) a e = ap Some e

-- nothing is past the end
pub past : {A : Type 0} (xs : List A) (i : ℕ) → slice_get xs i ≡ None → length xs ≤ i
past [] i e = omega arith
past (x ∷ xs) zero e = absurd (none-some x (sym e))
past (x ∷ xs) (suc i) e = let more = past xs i e in omega (arith, more)

-- what is put in a place is what stood there, changed
pub changed_there : {V : Type 0} (f : V → V) (slots : List (Option V)) (k : ℕ) → slice_get (set slots k (option_map f (option_flatten (slice_get slots k)))) k ≡ option_map (option_map f) (slice_get slots k)
changed_there {V} f slots k = by_slot (slice_get slots k) refl
  where
    by_slot : (o : Option (Option V)) → slice_get slots k ≡ o → slice_get (set slots k (option_map f (option_flatten (slice_get slots k)))) k ≡ option_map (option_map f) (slice_get slots k)
    by_slot None e = slice_get_past (set slots k (option_map f (option_flatten (slice_get slots k)))) k (subst (λ (n : ℕ). n ≤ k) (sym (length-set slots k (option_map f (option_flatten (slice_get slots k))))) (past slots k e)) ∙ sym (ap (option_map (option_map f)) e)
    by_slot (Some slot) e = get_set slots k slot (option_map f (option_flatten (slice_get slots k))) e ∙ ap (λ o. Some (option_map f (option_flatten o))) e ∙ sym (ap (option_map (option_map f)) e)

-- two places are one, or aren't
pub same_or_other : (i j : ℕ) → (i ≡ j) ⊎ (i ≢ j)
same_or_other zero zero = inl refl
same_or_other zero (suc j) = inr (λ same. omega (arith, same))
same_or_other (suc i) zero = inr (λ same. omega (arith, same))
same_or_other (suc i) (suc j) = deeper (same_or_other i j)
  where
    deeper : (i ≡ j) ⊎ (i ≢ j) → (suc i ≡ suc j) ⊎ (suc i ≢ suc j)
    deeper (inl same) = inl (ap suc same)
    deeper (inr other) = inr (λ same. other (omega (arith, same)))

pub few_or_more : (k : ℕ) → (k < 256) ⊎ (256 ≤ k)
few_or_more k = search arith

-- what is below the next number, and another, is below this one
pub below : (i n : ℕ) → i < n + 1 → n ≢ i → i < n
below zero zero h other = absurd (other refl)
below zero (suc n) h other = omega arith
below (suc i) zero h other = absurd (omega (arith, h))
below (suc i) (suc n) h other = let less = below i n (omega (arith, h)) (λ same. other (ap suc same)) in omega (arith, less)

-- what holds below a place and there holds below the next
pub up_to : (place k : ℕ) (P : ℕ → Type 0) → k < place + 1 → P place → (k < place → P k) → P k
up_to place k P less here before = by_place (same_or_other place k)
  where
    by_place : (place ≡ k) ⊎ (place ≢ k) → P k
    by_place (inl same) = subst P same here
    by_place (inr other) = before (below k place less other)

-- one more of the same
pub one_same : {A : Type 0} (n : ℕ) (a : A) → replicate n a ++ a ∷ [] ≡ replicate (n + 1) a
one_same n a = replicate-append-replicate n 1 a

module _ {A B : Type 0} (f : A → B) where
  pub get_of_map : (xs : List A) (i : ℕ) (b : B) → slice_get (map f xs) i ≡ Some b → (a : A) × (slice_get xs i ≡ Some a) × (f a ≡ b)
  get_of_map [] i b e = absurd (none-some b e)
  get_of_map (x ∷ xs) zero b e = (x, refl, same_Some (f x) b e)
  get_of_map (x ∷ xs) (suc i) b e = get_of_map xs i b e

  pub map_get : (xs : List A) (i : ℕ) (a : A) → slice_get xs i ≡ Some a → slice_get (map f xs) i ≡ Some (f a)
  map_get xs i a e = slice_get-map f xs i ∙ ap (option_map f) e

  -- another stands there, which f can't tell from the first
  pub map_same : (xs : List A) (i : ℕ) (a b : A) → slice_get xs i ≡ Some a → f b ≡ f a → map f (set xs i b) ≡ map f xs
  map_same xs i a b at e = map-set_same f xs i b b (e ∙ ap f (sym (get_or_from_slice_get xs i a b at)))

module _ {P : Type 0} where
  -- all else stays
  pub taken_others : (xs ys : List (Option P)) (i : ℕ) (o : Option P) → MatchOption o (ys ≡ xs) (λ p. (slice_get xs i ≡ Some (Some p)) × (ys ≡ set xs i None)) → (j : ℕ) → j ≢ i → slice_get ys j ≡ slice_get xs j
  taken_others xs ys i None e j other = ap (λ l. slice_get l j) e
  taken_others xs ys i (Some p) e j other = ap (λ l. slice_get l j) e.1 ∙ get_other xs i j None other
