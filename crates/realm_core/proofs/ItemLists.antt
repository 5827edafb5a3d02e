-- The items of one connection among those of all.
use Rattle.std.proofs.Common.{◌≡◌, ℕ, Bool, true, false, cond, eqb, ◌||◌, List, [], ◌∷◌, ◌++◌, refl, sym, ap, ◌∙◌}
use Rattle.std.proofs.lemmas.Bool.{eq-eqb, ne_eqb, or_parts, or_left, or_right}
use Rattle.std.proofs.lemmas.List.Folds.{list_any-append}
use Rattle.wamp_messages.specs.declared.item.Item.{Item}
use Rattle.realm.specs.Given.{items_for}
use Rattle.realm.proofs.Lemmas.{items_for-append}
use Rattle.realm_core.specs.Worlds.{is_in}

-- the item, if it is for this connection
abbrev pub if_for : ℕ → ℕ → Item → List Item
if_for c d i = cond (eqb d c) (i ∷ []) []

pub items_for-cons : (c d : ℕ) (i : Item) (xs : List (ℕ × Item)) → items_for c ((d, i) ∷ xs) ≡ if_for c d i ++ items_for c xs
items_for-cons c d i xs = at (eqb d c)
  where
    at : (b : Bool) → cond b (i ∷ items_for c xs) (items_for c xs) ≡ cond b (i ∷ []) [] ++ items_for c xs
    at true = refl
    at false = refl

pub items_for-last : (c d : ℕ) (i : Item) (xs : List (ℕ × Item)) → items_for c (xs ++ (d, i) ∷ []) ≡ items_for c xs ++ if_for c d i
items_for-last c d i xs = items_for-append c xs ((d, i) ∷ [])

-- of two connections one is there and the other isn't
two : (c d : ℕ) (xs : List ℕ) → is_in c xs ≡ true → is_in d xs ≡ false → c ≡ d → ⊥
two c d xs here there e = let both : is_in d xs ≡ true = ap (λ n. is_in n xs) (sym e) ∙ here in absurd (cc)

pub apart : (c d : ℕ) (xs : List ℕ) → is_in c xs ≡ true → is_in d xs ≡ false → eqb c d ≡ false
apart c d xs here there = ne_eqb c d (two c d xs here there)

pub apart-sym : (c d : ℕ) (xs : List ℕ) → is_in c xs ≡ true → is_in d xs ≡ false → eqb d c ≡ false
apart-sym c d xs here there = ne_eqb d c (λ e. two c d xs here there (sym e))

pub is_in-self : (c : ℕ) (xs : List ℕ) → is_in c (xs ++ c ∷ []) ≡ true
is_in-self c xs = list_any-append (λ d. eqb d c) xs (c ∷ []) ∙ or_right (is_in c xs) (eqb c c || false) (or_left (eqb c c) false (eq-eqb c c refl))

pub is_in-more : (c d : ℕ) (xs : List ℕ) → is_in c xs ≡ true → is_in c (xs ++ d ∷ []) ≡ true
is_in-more c d xs here = list_any-append (λ x. eqb x c) xs (d ∷ []) ∙ or_left (is_in c xs) (eqb d c || false) here

-- not there with one more: not there, and another
pub not_in-more : (c d : ℕ) (xs : List ℕ) → is_in c (xs ++ d ∷ []) ≡ false → (is_in c xs ≡ false) × (eqb d c ≡ false)
not_in-more c d xs there =
    let parts = or_parts (is_in c xs) (eqb d c || false) (sym (list_any-append (λ x. eqb x c) xs (d ∷ [])) ∙ there) in
    (parts.0, (or_parts (eqb d c) false parts.1).0)
