-- What is held, with its numbers, as a list in order.
use Rattle.std.proofs.Common.{◌≡◌, ℕ, ◌+◌, ◌≤◌, ◌<◌, Bool, true, false, cond, ◌&&◌, ◌||◌, eqb, List, [], ◌∷◌, ◌++◌, length, refl, sym, ap, ◌∙◌, arith}
use Rattle.std.specs.List.{filter}
use Rattle.std.proofs.lemmas.Bool.{eqb-true, eq-eqb, and_parts, or_left}
use Rattle.std.proofs.lemmas.List.Folds.{list_any-append}
use Rattle.std.proofs.Math.Bool.{and-false, or-true}
use Rattle.wamp_ids.proofs.Lemmas.{same_pattern-refl, same_pattern-true}
use Rattle.wamp_ids.specs.Pattern.{PatternText, same_pattern}
use Rattle.subscription_index.specs.Index.{Row, IsStrictlyAscending, keys}
use Rattle.subscription_index.specs.Members.{has_row, rows_of, has_named, same_named, IsBelowAll, AscendsByNumber}
use Rattle.subscription_index.proofs.Lemmas.{has_named-rows_of, ascends-rows_of, named_decide}
use Rattle.realm.specs.Subscriptions.{held_among, number_among, numbered}

-- numbers ascend
below-append : (n : ℕ) (xs : List (ℕ × PatternText)) (x : ℕ × PatternText) → n < x.0 → IsBelowAll n xs → IsBelowAll n (xs ++ x ∷ [])
below-append n [] x small below = (small, tt)
below-append n (y ∷ ys) x small below = (below.0, below-append n ys x small below.1)

abbrev EndBelow : List (ℕ × PatternText) → ℕ → Type 0
EndBelow [] n = Unit {0}
EndBelow (x ∷ xs) n = (x.0 < n) × EndBelow xs n

end-append : (n : ℕ) (xs : List (ℕ × PatternText)) (x : ℕ × PatternText) → x.0 < n → EndBelow xs n → EndBelow (xs ++ x ∷ []) n
end-append n [] x small below = (small, tt)
end-append n (y ∷ ys) x small below = (below.0, end-append n ys x small below.1)

end-more : (n m : ℕ) (xs : List (ℕ × PatternText)) → n ≤ m → EndBelow xs n → EndBelow xs m
end-more n m [] small below = tt
end-more n m (x ∷ xs) small below = (omega (arith, below.0), end-more n m xs small below.1)

ascends-append : (xs : List (ℕ × PatternText)) (x : ℕ × PatternText) → EndBelow xs x.0 → AscendsByNumber xs → AscendsByNumber (xs ++ x ∷ [])
ascends-append [] x below ascends = (tt, tt)
ascends-append (y ∷ ys) x below ascends = (below-append y.0 ys x below.0 ascends.0, ascends-append ys x below.1 ascends.1)

end-numbered : (os : List PatternText) → EndBelow (numbered os) (length os + 1)
end-numbered [] = tt
end-numbered (p ∷ older) =
    end-append (length (p ∷ older) + 1) (numbered older) (length older + 1, p) (omega arith)
    (end-more (length older + 1) (length (p ∷ older) + 1) (numbered older) (omega arith) (end-numbered older))

pub ascends-numbered : (os : List PatternText) → AscendsByNumber (numbered os)
ascends-numbered [] = tt
ascends-numbered (p ∷ older) = ascends-append (numbered older) (length older + 1, p) (end-numbered older) (ascends-numbered older)

below-filter : (n : ℕ) (f : ℕ × PatternText → Bool) (xs : List (ℕ × PatternText)) → IsBelowAll n xs → IsBelowAll n (filter f xs)
below-filter n f [] below = tt
below-filter n f (x ∷ xs) below = at (f x) (below-filter n f xs below.1)
  where
    at : (b : Bool) → IsBelowAll n (filter f xs) → IsBelowAll n (cond b (x ∷ filter f xs) (filter f xs))
    at true rest = (below.0, rest)
    at false rest = rest

pub ascends-filter : (f : ℕ × PatternText → Bool) (xs : List (ℕ × PatternText)) → AscendsByNumber xs → AscendsByNumber (filter f xs)
ascends-filter f [] ascends = tt
ascends-filter f (x ∷ xs) ascends = at (f x) (ascends-filter f xs ascends.1)
  where
    at : (b : Bool) → AscendsByNumber (filter f xs) → AscendsByNumber (cond b (x ∷ filter f xs) (filter f xs))
    at true rest = (below-filter x.0 f xs ascends.0, rest)
    at false rest = rest

-- what is in the list
same_named-true : (a b : ℕ × PatternText) → same_named a b ≡ true → a ≡ b
same_named-true a b is =
    let both = and_parts (eqb a.0 b.0) (same_pattern a.1 b.1) is in
    ap (λ n. (n, a.1)) (eqb-true a.0 b.0 both.0) ∙ ap (λ p. (b.0, p)) (same_pattern-true a.1 b.1 both.1)

module _ (f : ℕ × PatternText → Bool) (s : ℕ × PatternText) where
  pub has_named-filter : (xs : List (ℕ × PatternText)) → has_named (filter f xs) s ≡ f s && has_named xs s
  has_named-filter [] = sym (and-false (f s))
  has_named-filter (x ∷ xs) = at (f x) refl (same_named x s) refl (f s) refl (has_named-filter xs)
    where
      at : (kept : Bool) → f x ≡ kept → (here : Bool) → same_named x s ≡ here → (asked : Bool) → f s ≡ asked → has_named (filter f xs) s ≡ asked && has_named xs s
          → has_named (cond kept (x ∷ filter f xs) (filter f xs)) s ≡ asked && (here || has_named xs s)
      at true is true here_is true asked_is rest = rw here_is refl
      at true is true here_is false asked_is rest = absurd (let same : f x ≡ f s = ap f (same_named-true x s here_is) in cc)
      at true is false here_is asked asked_is rest = rw here_is rest
      at false is true here_is true asked_is rest = absurd (let same : f x ≡ f s = ap f (same_named-true x s here_is) in cc)
      at false is true here_is false asked_is rest = rest
      at false is false here_is asked asked_is rest = rest

one-itself : (n : ℕ) (p : PatternText) → same_named (n, p) (n, p) ≡ true
one-itself n p = rw (eq-eqb n n refl) (same_pattern-refl p)

-- what was opened is there with its number
has_named-numbered : (os : List PatternText) (p : PatternText) → 1 ≤ number_among os p → has_named (numbered os) (number_among os p, p) ≡ true
has_named-numbered [] p some = absurd (omega arith)
has_named-numbered (q ∷ older) p some = at (same_pattern q p) refl some (has_named-numbered older p)
  where
    at : (b : Bool) → same_pattern q p ≡ b → 1 ≤ cond b (length older + 1) (number_among older p)
        → (1 ≤ number_among older p → has_named (numbered older) (number_among older p, p) ≡ true)
        → has_named (numbered older ++ (length older + 1, q) ∷ []) (cond b (length older + 1) (number_among older p), p) ≡ true
    at true is some_here rest =
        let e : q ≡ p = same_pattern-true q p is in
        rw (← e) (list_any-append (λ x. same_named x (length older + 1, q)) (numbered older) ((length older + 1, q) ∷ [])
        ∙ rw (one-itself (length older + 1) q) (or-true (has_named (numbered older) (length older + 1, q))))
    at false is some_here rest =
        list_any-append (λ x. same_named x (number_among older p, p)) (numbered older) ((length older + 1, q) ∷ [])
        ∙ or_left (has_named (numbered older) (number_among older p, p)) (has_named ((length older + 1, q) ∷ []) (number_among older p, p)) (rest some_here)

-- the rows of c are what it holds
pub rows-held : (rows : List Row) (os : List PatternText) (holds : PatternText → Bool) (c : ℕ) → IsStrictlyAscending (keys rows)
    → ((p : PatternText) → holds p ≡ true → 1 ≤ number_among os p)
    → ((n : ℕ) (p : PatternText) → has_row rows ((c, n), p) ≡ (holds p && eqb (number_among os p) n))
    → rows_of c rows ≡ held_among holds os
rows-held rows os holds c ascending some agree =
    named_decide (rows_of c rows) (held_among holds os) (ascends-rows_of c rows ascending) (ascends-filter (λ s. holds s.1 && eqb (number_among os s.1) s.0) (numbered os) (ascends-numbered os))
    (λ s. has_named-rows_of c rows s.0 s.1 ∙ (agree s.0 s.1 ∙ sym (has_named-filter (λ s. holds s.1 && eqb (number_among os s.1) s.0) s (numbered os) ∙ at s (holds s.1 && eqb (number_among os s.1) s.0) refl)))
  where
    at : (s : ℕ × PatternText) (b : Bool) → holds s.1 && eqb (number_among os s.1) s.0 ≡ b → b && has_named (numbered os) s ≡ b
    at s true is =
        let both = and_parts (holds s.1) (eqb (number_among os s.1) s.0) is in
        let number : number_among os s.1 ≡ s.0 = eqb-true (number_among os s.1) s.0 both.1 in
        ap (λ n. has_named (numbered os) (n, s.1)) (sym number) ∙ has_named-numbered os s.1 (some s.1 both.0)
    at s false is = refl
