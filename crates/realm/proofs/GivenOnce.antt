-- What an entry gives is one list.
use Rattle.std.proofs.Common.{◌≡◌, ℕ, suc, ◌≤◌, Bool, true, false, cond, eqb, ltb, List, [], ◌∷◌, refl, sym, ap, ◌∙◌, arith}
use Rattle.std.proofs.lemmas.Bool.{eq-eqb}
use Rattle.std.proofs.lemmas.Bool.Decides.{nat_tests}
use Rattle.wamp_messages.specs.declared.item.Item.{Item}
use Rattle.realm.specs.Given.{items_for, StartsAbove, IsAscending}
use Rattle.realm.specs.Laws.{GivenOnce}

starts-lower : (a b : ℕ) (xs : List (ℕ × Item)) → a ≤ b → StartsAbove b xs → StartsAbove a xs
starts-lower a b [] small starts = tt
starts-lower a b (x ∷ xs) small starts = let above : b ≤ x.0 = starts in omega arith

-- what stands for greater connections alone gives c nothing
none-below : (c : ℕ) (xs : List (ℕ × Item)) → StartsAbove (suc c) xs → IsAscending xs → items_for c xs ≡ []
none-below c [] starts ascending = refl
none-below c (x ∷ xs) starts ascending =
    let above : suc c ≤ x.0 = starts in
    let other : eqb x.0 c ≡ false = grind (arith, nat_tests) in
    rw other (none-below c xs (starts-lower (suc c) x.0 xs above ascending.0) ascending.1)

own-first : (x : ℕ × Item) (xs : List (ℕ × Item)) → items_for x.0 (x ∷ xs) ≡ x.1 ∷ items_for x.0 xs
own-first x xs = rw (eq-eqb x.0 x.0 refl) refl

clash : {X : Type 0} → (i : Item) (is : List Item) → ◌≡◌ {A = List Item} [] (i ∷ is) → X
clash i is e = absurd (cc)

-- the first connection of one list isn't before that of the other
not-before : {X : Type 0} → (x y : ℕ × Item) (xs ys : List (ℕ × Item)) → ((c : ℕ) → items_for c (x ∷ xs) ≡ items_for c (y ∷ ys)) → IsAscending (y ∷ ys) → ltb x.0 y.0 ≡ true → X
not-before x y xs ys same ascending less =
    let above : suc x.0 ≤ y.0 = grind (arith, nat_tests) in
    clash x.1 (items_for x.0 xs) (sym (none-below x.0 (y ∷ ys) above ascending) ∙ (sym (same x.0) ∙ own-first x xs))

pub alike : (xs ys : List (ℕ × Item)) → IsAscending xs → IsAscending ys → ((c : ℕ) → items_for c xs ≡ items_for c ys) → xs ≡ ys
alike [] [] first second same = refl
alike [] (y ∷ ys) first second same = clash y.1 (items_for y.0 ys) (same y.0 ∙ own-first y ys)
alike (x ∷ xs) [] first second same = clash x.1 (items_for x.0 xs) (sym (same x.0) ∙ own-first x xs)
alike (x ∷ xs) (y ∷ ys) first second same = at (ltb x.0 y.0) refl (ltb y.0 x.0) refl (λ rests. alike xs ys first.1 second.1 rests)
  where
    at : (less : Bool) → ltb x.0 y.0 ≡ less → (more : Bool) → ltb y.0 x.0 ≡ more → (((c : ℕ) → items_for c xs ≡ items_for c ys) → xs ≡ ys) → x ∷ xs ≡ y ∷ ys
    at true less more more_is later = not-before x y xs ys same second less
    at false less true more later = not-before y x ys xs (λ c. sym (same c)) first more
    at false less false more later =
        let conn : x.0 ≡ y.0 = grind (arith, nat_tests) in
        let firsts : x.1 ∷ items_for x.0 xs ≡ y.1 ∷ items_for y.0 ys = sym (own-first x xs) ∙ (same x.0 ∙ (ap (λ c. items_for c (y ∷ ys)) conn ∙ own-first y ys)) in
        let item : x.1 ≡ y.1 = cc in
        let heads : x ≡ y = ap (λ c. (c, x.1)) conn ∙ ap (λ i. (y.0, i)) item in
        ap (λ z. z ∷ xs) heads ∙ ap (λ zs. y ∷ zs) (later (λ c. rest c (eqb x.0 c) refl (same c)))
      where
        rest : (c : ℕ) (b : Bool) → eqb x.0 c ≡ b → cond (eqb x.0 c) (x.1 ∷ items_for c xs) (items_for c xs) ≡ cond (eqb y.0 c) (y.1 ∷ items_for c ys) (items_for c ys)
            → items_for c xs ≡ items_for c ys
        rest c b is e =
            let conn : x.0 ≡ y.0 = grind (arith, nat_tests) in
            let other : eqb y.0 c ≡ b = ap (λ z. eqb z c) (sym conn) ∙ is in
            split b (sym (ap (λ z. cond z (x.1 ∷ items_for c xs) (items_for c xs)) is) ∙ (e ∙ ap (λ z. cond z (y.1 ∷ items_for c ys) (items_for c ys)) other))
          where
            split : (b : Bool) → cond b (x.1 ∷ items_for c xs) (items_for c xs) ≡ cond b (y.1 ∷ items_for c ys) (items_for c ys) → items_for c xs ≡ items_for c ys
            split true both = cc
            split false both = both

pub given-once : GivenOnce
given-once h e xs ys first second = alike xs ys first.ascending second.ascending (λ c. first.each c ∙ sym (second.each c))
