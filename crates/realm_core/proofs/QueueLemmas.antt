-- What was added, what was taken, and what is between.
use Rattle.std.proofs.Common.{◌≡◌, ℕ, ◌≤◌, ◌<◌, Bool, true, false, cond, eqb, List, [], ◌∷◌, ◌++◌, length, drop, refl, sym, ap, subst, ◌∙◌, append-nil, append_assoc, arith, length-append}
use Rattle.std.proofs.lemmas.Bool.{eqb-true}
use Rattle.std.proofs.Math.Seq.{drop-append_seam}
use Rattle.wamp_messages.specs.declared.item.Item.{Item}
use Rattle.realm.specs.Given.{items_for}
use Rattle.realm.specs.Laws.{BeginsList}
use Rattle.realm_core.proofs.ItemLists.{if_for, items_for-last}

-- the queue of c
abbrev pub between : ℕ → List (ℕ × Item) → List (ℕ × Item) → List Item
between c added taken = drop (length (items_for c taken)) (items_for c added)

pub record Queued (cap : ℕ) (added taken : List (ℕ × Item)) : Type 0 where
  pub begins : (c : ℕ) → BeginsList (items_for c taken) (items_for c added)
  pub capacity : (c : ℕ) → length (between c added taken) ≤ cap

-- what is between
pub between-is : (c : ℕ) (added taken : List (ℕ × Item)) (more : List Item) → items_for c added ≡ items_for c taken ++ more → between c added taken ≡ more
between-is c added taken more e = ap (drop (length (items_for c taken))) e ∙ drop-append_seam (items_for c taken) more

pub split : (cap : ℕ) (added taken : List (ℕ × Item)) → Queued cap added taken → (c : ℕ) → items_for c added ≡ items_for c taken ++ between c added taken
split cap added taken q c = (q.begins c).1 ∙ ap (λ l. items_for c taken ++ l) (sym (between-is c added taken (q.begins c).0 (q.begins c).1))

pub queued-begun : (cap : ℕ) → Queued cap [] []
queued-begun cap = record { begins = λ c. ([], refl); capacity = λ c. omega arith }

pub queued-pushed : (cap c : ℕ) (i : Item) (added taken : List (ℕ × Item)) → Queued cap added taken → length (between c added taken) < cap → Queued cap (added ++ (c, i) ∷ []) taken
queued-pushed cap c i added taken q room = record {
  begins = λ d. (between d added taken ++ if_for d c i, now d);
  capacity = λ d. subst (λ (l : List Item). length l ≤ cap) (sym (between-is d (added ++ (c, i) ∷ []) taken (between d added taken ++ if_for d c i) (now d))) (fits d (eqb c d) refl);
}
  where
    now : (d : ℕ) → items_for d (added ++ (c, i) ∷ []) ≡ items_for d taken ++ (between d added taken ++ if_for d c i)
    now d = items_for-last d c i added ∙ ap (λ l. l ++ if_for d c i) (split cap added taken q d) ∙ append_assoc (items_for d taken) (between d added taken) (if_for d c i)

    fits : (d : ℕ) (b : Bool) → eqb c d ≡ b → length (between d added taken ++ cond b (i ∷ []) []) ≤ cap
    fits d true is =
        let e : c ≡ d = eqb-true c d is in
        let there : length (between d added taken) < cap = subst (λ n. length (between n added taken) < cap) e room in
        omega (arith, length-append (between d added taken) (i ∷ []))
    fits d false is = subst (λ (l : List Item). length l ≤ cap) (sym (append-nil (between d added taken))) (q.capacity d)

pub queued-taken : (cap c : ℕ) (i : Item) (rest : List Item) (added taken : List (ℕ × Item))
    → Queued cap added taken → between c added taken ≡ i ∷ rest → Queued cap added (taken ++ (c, i) ∷ [])
queued-taken cap c i rest added taken q front = record {
  begins = λ d. (after d (eqb c d), now d (eqb c d) refl);
  capacity = λ d. subst (λ (l : List Item). length l ≤ cap) (sym (between-is d added (taken ++ (c, i) ∷ []) (after d (eqb c d)) (now d (eqb c d) refl))) (fits d (eqb c d) refl);
}
  where
    after : (d : ℕ) → Bool → List Item
    after d true = rest
    after d false = between d added taken

    now : (d : ℕ) (b : Bool) → eqb c d ≡ b → items_for d added ≡ items_for d (taken ++ (c, i) ∷ []) ++ after d b
    now d true is =
        let e : c ≡ d = eqb-true c d is in
        let there : between d added taken ≡ i ∷ rest = subst (λ n. between n added taken ≡ i ∷ rest) e front in
        split cap added taken q d ∙ ap (λ l. items_for d taken ++ l) there
        ∙ sym (append_assoc (items_for d taken) (i ∷ []) rest)
        ∙ ap (λ b. (items_for d taken ++ cond b (i ∷ []) []) ++ rest) (sym is)
        ∙ ap (λ l. l ++ rest) (sym (items_for-last d c i taken))
    now d false is =
        split cap added taken q d
        ∙ ap (λ l. l ++ between d added taken) (sym (append-nil (items_for d taken)) ∙ ap (λ b. items_for d taken ++ cond b (i ∷ []) []) (sym is) ∙ sym (items_for-last d c i taken))

    fits : (d : ℕ) (b : Bool) → eqb c d ≡ b → length (after d b) ≤ cap
    fits d true is =
        let e : c ≡ d = eqb-true c d is in
        let there : between d added taken ≡ i ∷ rest = subst (λ n. between n added taken ≡ i ∷ rest) e front in
        let whole : length (between d added taken) ≤ cap = q.capacity d in
        let count : length (between d added taken) ≡ length (i ∷ rest) = ap length there in
        omega arith
    fits d false is = q.capacity d
