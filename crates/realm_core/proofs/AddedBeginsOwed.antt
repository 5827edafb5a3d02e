-- What was added and waits to be pushed, and what is owed.
use Rattle.std.proofs.Common.{◌≡◌, ℕ, Bool, true, false, cond, List, [], ◌∷◌, ◌++◌, refl, sym, ap, ◌∙◌, append-nil, append_assoc}
use Rattle.wamp_messages.specs.declared.item.Item.{Item}
use Rattle.realm.specs.declared.entry.Entry.{Entry}
use Rattle.realm.specs.History.{History, ◌▷◌}
use Rattle.realm.specs.Yield.{owed, yield}
use Rattle.realm.specs.Given.{items_for, GivesExactly}
use Rattle.realm.specs.Laws.{BeginsList}
use Rattle.realm_core.specs.Worlds.{is_in}
use Rattle.realm_core.proofs.ItemLists.{if_for, items_for-cons, items_for-last, apart, apart-sym, not_in-more}

-- h owes what was added, and to who wasn't found full also what waits to be pushed, and nothing else
pub record Owing (h : History) (added pushing : List (ℕ × Item)) (full : List ℕ) : Type 0 where
  pub begins : (c : ℕ) → BeginsList (items_for c added) (owed h c)
  pub all : (c : ℕ) → is_in c full ≡ false → items_for c added ++ items_for c pushing ≡ owed h c

begins-more : {X : Type 0} (xs ys zs : List X) → BeginsList xs ys → BeginsList xs (ys ++ zs)
begins-more xs ys zs b = (b.0 ++ zs, ap (λ l. l ++ zs) b.1 ∙ append_assoc xs b.0 zs)

pub owing-enters : (h : History) (e : Entry) (added given : List (ℕ × Item)) (full : List ℕ) → Owing h added [] full → GivesExactly h e given → Owing (h ▷ e) added given full
owing-enters h e added given full before gives = record {
  begins = λ c. begins-more (items_for c added) (owed h c) (yield h e c) (before.begins c);
  all = λ c free. ap (λ l. items_for c added ++ l) (gives.each c) ∙ ap (λ l. l ++ yield h e c) (sym (append-nil (items_for c added)) ∙ before.all c free);
}

pub owing-pushed : (h : History) (c : ℕ) (i : Item) (added rest : List (ℕ × Item)) (full : List ℕ)
    → Owing h added ((c, i) ∷ rest) full → is_in c full ≡ false → Owing h (added ++ (c, i) ∷ []) rest full
owing-pushed h c i added rest full before free = record { begins = λ d. at d (is_in d full) refl; all = every }
  where
    every : (d : ℕ) → is_in d full ≡ false → items_for d (added ++ (c, i) ∷ []) ++ items_for d rest ≡ owed h d
    every d is =
        ap (λ l. l ++ items_for d rest) (items_for-last d c i added)
        ∙ append_assoc (items_for d added) (if_for d c i) (items_for d rest)
        ∙ ap (λ l. items_for d added ++ l) (sym (items_for-cons d c i rest))
        ∙ before.all d is

    none-for : (d : ℕ) → is_in d full ≡ true → (xs : List Item) → xs ++ if_for d c i ≡ xs
    none-for d is xs = ap (λ b. xs ++ cond b (i ∷ []) []) (apart-sym d c full is free) ∙ append-nil xs

    at : (d : ℕ) (b : Bool) → is_in d full ≡ b → BeginsList (items_for d (added ++ (c, i) ∷ [])) (owed h d)
    at d true is =
        let same : items_for d (added ++ (c, i) ∷ []) ≡ items_for d added = items_for-last d c i added ∙ none-for d is (items_for d added) in
        ((before.begins d).0, (before.begins d).1 ∙ ap (λ l. l ++ (before.begins d).0) (sym same))
    at d false is = (items_for d rest, sym (every d is))

-- who was found full gets nothing more
pub owing-found : (h : History) (c : ℕ) (i : Item) (added rest : List (ℕ × Item)) (full : List ℕ)
    → Owing h added ((c, i) ∷ rest) full → is_in c full ≡ true → Owing h added rest full
owing-found h c i added rest full before here = record {
  begins = before.begins;
  all = λ d free. ap (λ l. items_for d added ++ l) (sym (ap (λ b. cond b (i ∷ []) [] ++ items_for d rest) (apart c d full here free)) ∙ sym (items_for-cons d c i rest)) ∙ before.all d free;
}

pub owing-marked : (h : History) (c : ℕ) (i : Item) (added rest : List (ℕ × Item)) (full : List ℕ)
    → Owing h added ((c, i) ∷ rest) full → Owing h added rest (full ++ c ∷ [])
owing-marked h c i added rest full before = record {
  begins = before.begins;
  all = λ d free.
      let parts = not_in-more d c full free in
      ap (λ l. items_for d added ++ l) (sym (ap (λ b. cond b (i ∷ []) [] ++ items_for d rest) parts.1) ∙ sym (items_for-cons d c i rest)) ∙ before.all d parts.0;
}
