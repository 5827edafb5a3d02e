-- A stable sort, of which the first of those that tie is taken, is what putting them in order one by one gives.
use Rattle.std.proofs.Common.{◌≡◌, List, [], ◌∷◌, Bool, true, false, not, ◌&&◌, cond, Option, Some, None, Ordering, Less, Equal, Greater, is_eq, refl, sym, ap, ◌∙◌, subst}
use Rattle.std.specs.Ordering.{is_lt, match_ordering, ordering_reverse, eq_by_cmp}
use Rattle.std.specs.Cmp.{IsTotalOrder}
use Rattle.std.specs.List.{All, filter, dedup, dedup_from, AllByRecursion}
use Rattle.std.specs.List.Sorted.{IsStrictlySortedBy, IsSorted, IsStable, ties}
use Rattle.std.proofs.lemmas.Cmp.{tied_itself, alike_right}
use Rattle.std.proofs.lemmas.List.Elements.{All-cons, All-head, All-tail}
use Rattle.std.proofs.lemmas.List.Kept.{IsStrictlySortedBy-dedup}
use Rattle.message_tree.proofs.Comparisons.{whichever}
use Rattle.msgpack_canonical.specs.body.Sorting.{placed, in_order}

tie : (r : Ordering) → (not (is_lt r) && not (is_lt (ordering_reverse r))) ≡ is_eq r
tie Less = refl
tie Equal = refl
tie Greater = refl

-- one test of two that don't both pass may come before the other
exchanged : {A : Type 0} (p q : Bool) (x y z : A) → (p ≡ true → q ≡ false) → cond p x (cond q y z) ≡ cond q y (cond p x z)
exchanged true q x y z apart = sym (ap (λ b. cond b y x) (apart refl))
exchanged false q x y z apart = refl

-- behind a test the same test never passes
hidden : {A : Type 0} (p q : Bool) (x y z : A) → q ≡ p → cond p x z ≡ cond p x (cond q y z)
hidden true q x y z same = refl
hidden false q x y z same = sym (ap (λ b. cond b y z) same)

refuted : (b : Bool) → (b ≡ true → ⊥) → b ≡ false
refuted true never = absurd (never refl)
refuted false never = refl

is-equal : (r : Ordering) → is_eq r ≡ true → r ≡ Equal
is-equal Less h = absurd cc
is-equal Equal h = refl
is-equal Greater h = absurd cc

-- the first of them
abbrev front : {X : Type 0} → List X → Option X
front [] = None
front (x ∷ xs) = Some x

front-cond : {X : Type 0} (b : Bool) (x : X) (xs : List X) → front (cond b (x ∷ xs) xs) ≡ cond b (Some x) (front xs)
front-cond true x xs = refl
front-cond false x xs = refl

AllByRecursion-map : {X : Type 0} {P Q : X → Type 0} → ((x : X) → P x → Q x) → (xs : List X) → AllByRecursion P xs → AllByRecursion Q xs
AllByRecursion-map h [] all = tt
AllByRecursion-map h (x ∷ xs) all = (h x all.0, AllByRecursion-map h xs all.1)

module _ {X : Type 0} {c : X → X → Ordering} (o : IsTotalOrder c) where
  abbrev Above : X → List X → Type 0
  Above z xs = AllByRecursion (λ y. c z y ≡ Less) xs

  turned : (x y : X) (r : Ordering) → c x y ≡ r → c y x ≡ ordering_reverse r
  turned x y r e = o.antisymm y x ∙ ap ordering_reverse e

  -- the first that ties with z
  abbrev first : X → List X → Option X
  first z [] = None
  first z (y ∷ ys) = cond (is_eq (c z y)) (Some y) (first z ys)

  tied : (z y : X) → ties (λ x y. is_lt (c x y)) z y ≡ is_eq (c z y)
  tied z y = ap (λ r. not (is_lt (c z y)) && not (is_lt r)) (o.antisymm y z) ∙ tie (c z y)

  first-filter : (z : X) (xs : List X) → first z xs ≡ front (filter (ties (λ x y. is_lt (c x y)) z) xs)
  first-filter z [] = refl
  first-filter z (x ∷ xs) =
      let test = ties (λ x y. is_lt (c x y)) z in
      ap (cond (is_eq (c z x)) (Some x)) (first-filter z xs) ∙ (ap (λ b. cond b (Some x) (front (filter test xs))) (sym (tied z x)) ∙ sym (front-cond (test x) x (filter test xs)))

  -- ---- putting one in its place

  first-at : (z x y : X) (ys : List X) (r : Ordering) → c x y ≡ r → first z (placed c x ys) ≡ cond (is_eq (c z x)) (Some x) (first z ys)
      → first z (match_ordering r (x ∷ y ∷ ys) (x ∷ ys) (y ∷ placed c x ys)) ≡ cond (is_eq (c z x)) (Some x) (first z (y ∷ ys))
  first-at z x y ys Less e more = refl
  first-at z x y ys Equal e more =
      hidden (is_eq (c z x)) (is_eq (c z y)) (Some x) (Some y) (first z ys) (sym (ap is_eq (alike_right o x y z e)))
  first-at z x y ys Greater e more =
      let apart = λ (a : is_eq (c z y) ≡ true) (b : is_eq (c z x) ≡ true).
      let same : c x y ≡ Equal = sym (o.congr z x y (is-equal _ b)) ∙ is-equal _ a in
      let never : Greater ≡ Equal = sym e ∙ same in
      let none : ⊥ = cc in none in
      ap (cond (is_eq (c z y)) (Some y)) more ∙ exchanged (is_eq (c z y)) (is_eq (c z x)) (Some y) (Some x) (first z ys) (λ a. refuted (is_eq (c z x)) (apart a))

  first-placed : (z x : X) (ys : List X) → first z (placed c x ys) ≡ cond (is_eq (c z x)) (Some x) (first z ys)
  first-placed z x [] = refl
  first-placed z x (y ∷ ys) = first-at z x y ys (c x y) refl (first-placed z x ys)

  first-in_order : (z : X) (xs : List X) → first z (in_order c xs) ≡ first z xs
  first-in_order z [] = refl
  first-in_order z (x ∷ xs) = first-placed z x (in_order c xs) ∙ ap (cond (is_eq (c z x)) (Some x)) (first-in_order z xs)

  Above-placed : (z x : X) (ys : List X) → c z x ≡ Less → Above z ys → Above z (placed c x ys)
  Above-placed z x [] h a = (h, tt)
  Above-placed z x (y ∷ ys) h a = whichever (Above z) (c x y) (x ∷ y ∷ ys) (x ∷ ys) (y ∷ placed c x ys) (h, a) (h, a.1) (a.0, Above-placed z x ys h a.1)

  strict-at : (x y : X) (ys : List X) (r : Ordering) → c x y ≡ r → IsStrictlySortedBy c (y ∷ ys) → IsStrictlySortedBy c (placed c x ys) → IsStrictlySortedBy c (match_ordering r (x ∷ y ∷ ys) (x ∷ ys) (y ∷ placed c x ys))
  unfolding IsStrictlySortedBy
  strict-at x y ys Less e s more = ((e, AllByRecursion-map (λ w h. o.trans x y w e h) ys s.0), s)
  strict-at x y ys Equal e s more = (AllByRecursion-map (λ w h. o.congr x y w e ∙ h) ys s.0, s.1)
  strict-at x y ys Greater e s more = (Above-placed y x ys (turned x y Greater e) s.0, more)

  strict-placed : (x : X) (ys : List X) → IsStrictlySortedBy c ys → IsStrictlySortedBy c (placed c x ys)
  unfolding IsStrictlySortedBy
  strict-placed x [] s = (tt, tt)
  strict-placed x (y ∷ ys) s = strict-at x y ys (c x y) refl s (strict-placed x ys s.1)

  strict-in_order : (xs : List X) → IsStrictlySortedBy c (in_order c xs)
  unfolding IsStrictlySortedBy
  strict-in_order [] = tt
  strict-in_order (x ∷ xs) = strict-placed x (in_order c xs) (strict-in_order xs)

  -- ---- leaving out those behind one that they tie with

  same-at : (z k x : X) (xs : List X) (b : Bool) → is_eq (c x k) ≡ b → first z (dedup_from (eq_by_cmp c) k xs) ≡ first z (k ∷ xs) → first z (dedup_from (eq_by_cmp c) x xs) ≡ first z (x ∷ xs)
      → first z (cond b (dedup_from (eq_by_cmp c) k xs) (k ∷ dedup_from (eq_by_cmp c) x xs)) ≡ first z (k ∷ x ∷ xs)
  same-at z k x xs true e one other =
      one ∙ hidden (is_eq (c z k)) (is_eq (c z x)) (Some k) (Some x) (first z xs) (ap is_eq (alike_right o x k z (is-equal _ e)))
  same-at z k x xs false e one other = ap (cond (is_eq (c z k)) (Some k)) other

  first-dedup_from : (z k : X) (xs : List X) → first z (dedup_from (eq_by_cmp c) k xs) ≡ first z (k ∷ xs)
  first-dedup_from z k [] = refl
  first-dedup_from z k (x ∷ xs) = same-at z k x xs (is_eq (c x k)) refl (first-dedup_from z k xs) (first-dedup_from z x xs)

  first-dedup : (z : X) (xs : List X) → first z (dedup (eq_by_cmp c) xs) ≡ first z xs
  first-dedup z [] = refl
  first-dedup z (x ∷ xs) = first-dedup_from z x xs

  -- ---- lists in strict order in which the same is found

  none-above : (z : X) (ys : List X) → Above z ys → first z ys ≡ None
  none-above z [] a = refl
  none-above z (y ∷ ys) a = ap (λ r. cond (is_eq r) (Some y) (first z ys)) a.0 ∙ none-above z ys a.1

  found-itself : (a : X) (xs : List X) → first a (a ∷ xs) ≡ Some a
  found-itself a xs = ap (λ r. cond (is_eq r) (Some a) (first a xs)) (tied_itself o a)

  not-there : (a b : X) (ys : List X) → c a b ≡ Less → Above b ys → first a (b ∷ ys) ≡ None
  not-there a b ys e above = none-above a (b ∷ ys) (e, AllByRecursion-map (λ w h. o.trans a b w e h) ys above)

  head-at : (a b : X) (xs ys : List X) (r : Ordering) → c a b ≡ r → Above a xs → Above b ys → first a (a ∷ xs) ≡ first a (b ∷ ys) → first b (a ∷ xs) ≡ first b (b ∷ ys) → a ≡ b
  head-at a b xs ys Less e above-a above-b h g = let never : Some a ≡ None = sym (found-itself a xs) ∙ (h ∙ not-there a b ys e above-b) in absurd cc
  head-at a b xs ys Equal e above-a above-b h g =
      let is : Some a ≡ Some b = sym (found-itself a xs) ∙ (h ∙ ap (λ r. cond (is_eq r) (Some b) (first a ys)) e) in cc
  head-at a b xs ys Greater e above-a above-b h g = let never : Some b ≡ None = sym (found-itself b ys) ∙ (sym g ∙ not-there b a xs (turned a b Greater e) above-a) in absurd cc

  tail-at : (a z : X) (xs ys : List X) (b : Bool) → is_eq (c z a) ≡ b → Above a xs → Above a ys → cond b (Some a) (first z xs) ≡ cond b (Some a) (first z ys) → first z xs ≡ first z ys
  tail-at a z xs ys true e above-a above-b h =
      let under = λ (w : X) (less : c a w ≡ Less). o.congr z a w (is-equal _ e) ∙ less in
      none-above z xs (AllByRecursion-map under xs above-a) ∙ sym (none-above z ys (AllByRecursion-map under ys above-b))
  tail-at a z xs ys false e above-a above-b h = h

  alike : (xs ys : List X) → IsStrictlySortedBy c xs → IsStrictlySortedBy c ys → ((z : X) → first z xs ≡ first z ys) → xs ≡ ys
  unfolding IsStrictlySortedBy
  alike [] [] s t h = refl
  alike [] (b ∷ ys) s t h = let never : None ≡ Some b = h b ∙ found-itself b ys in absurd cc
  alike (a ∷ xs) [] s t h = let never : Some a ≡ None = sym (found-itself a xs) ∙ h a in absurd cc
  alike (a ∷ xs) (b ∷ ys) s t h =
      let same = head-at a b xs ys (c a b) refl s.0 t.0 (h a) (h b) in
      let above = subst (λ x. Above x ys) (sym same) t.0 in
      let tails = λ (z : X). tail-at a z xs ys (is_eq (c z a)) refl s.0 above (h z ∙ ap (λ x. first z (x ∷ ys)) (sym same)) in
      ap (λ x. x ∷ xs) same ∙ ap (λ zs. b ∷ zs) (alike xs ys s.1 t.1 tails)

  pub sorted-dedup : (xs ys : List X) → IsSorted c ys → IsStable c xs ys → dedup (eq_by_cmp c) ys ≡ in_order c xs
  sorted-dedup xs ys sorted stable =
      alike (dedup (eq_by_cmp c) ys) (in_order c xs) (IsStrictlySortedBy-dedup o (λ x y. refl) ys sorted) (strict-in_order xs)
      (λ z. first-dedup z ys ∙ (first-filter z ys ∙ (ap front (stable z) ∙ (sym (first-filter z xs) ∙ sym (first-in_order z xs)))))

-- ---- what is left has what all had

All-cond : {X : Type 0} (P : X → Type 0) (b : Bool) (xs ys : List X) → All P xs → All P ys → All P (cond b xs ys)
All-cond P true xs ys p q = p
All-cond P false xs ys p q = q

All-dedup_from : {X : Type 0} (P : X → Type 0) (same : X → X → Bool) (k : X) (xs : List X) → P k → All P xs → All P (dedup_from same k xs)
All-dedup_from P same k [] one all = All-cons P k [] one all
All-dedup_from P same k (x ∷ xs) one all =
    All-cond P (same x k) (dedup_from same k xs) (k ∷ dedup_from same x xs) (All-dedup_from P same k xs one (All-tail P x xs all))
    (All-cons P k (dedup_from same x xs) one (All-dedup_from P same x xs (All-head P x xs all) (All-tail P x xs all)))

pub All-dedup : {X : Type 0} (P : X → Type 0) (same : X → X → Bool) (xs : List X) → All P xs → All P (dedup same xs)
All-dedup P same [] all = all
All-dedup P same (x ∷ xs) all = All-dedup_from P same x xs (All-head P x xs all) (All-tail P x xs all)
