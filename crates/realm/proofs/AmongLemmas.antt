-- What is among a list, and of what it was made.
use Rattle.std.proofs.Common.{◌≡◌, ℕ, ◌+◌, ◌≤◌, Bool, true, false, true≢false, cond, ◌&&◌, eqb, List, [], ◌∷◌, ◌++◌, map, length, refl, sym, ap, ◌∙◌, arith, ◌⊎◌, inl, inr}
use Rattle.std.specs.List.{filter}
use Rattle.std.proofs.lemmas.Bool.{eq-eqb}
use Rattle.wamp_ids.proofs.Lemmas.{same_pattern-true}
use Rattle.wamp_ids.specs.Pattern.{PatternText, same_pattern}
use Rattle.wamp_messages.specs.declared.item.Item.{Item}
use Rattle.realm.specs.History.{History}
use Rattle.realm.specs.Subscriptions.{holds, opened, held, number, number_among, numbered}
use Rattle.realm.specs.Laws.{IsAmong}
use Rattle.realm.proofs.Numbers.{held-number}

pub among-first : {X : Type 0} → (x : X) (xs ys : List X) → IsAmong x xs → IsAmong x (xs ++ ys)
among-first x [] ys among = absurd among
among-first x (y ∷ xs) ys (inl here) = inl here
among-first x (y ∷ xs) ys (inr there) = inr (among-first x xs ys there)

pub among-second : {X : Type 0} → (x : X) (xs ys : List X) → IsAmong x ys → IsAmong x (xs ++ ys)
among-second x [] ys among = among
among-second x (y ∷ xs) ys among = inr (among-second x xs ys among)

pub among-either : {X : Type 0} → (x : X) (xs ys : List X) → IsAmong x (xs ++ ys) → IsAmong x xs ⊎ IsAmong x ys
among-either x [] ys among = inr among
among-either x (y ∷ xs) ys (inl here) = inl (inl here)
among-either x (y ∷ xs) ys (inr there) = at (among-either x xs ys there)
  where
    at : IsAmong x xs ⊎ IsAmong x ys → IsAmong x (y ∷ xs) ⊎ IsAmong x ys
    at (inl first) = inl (inr first)
    at (inr second) = inr second

-- what passes stays
pub among-kept : {X : Type 0} → (f : X → Bool) (x : X) (xs : List X) → IsAmong x xs → f x ≡ true → IsAmong x (filter f xs)
among-kept f x [] among passes = absurd among
among-kept f x (y ∷ xs) among passes = at (f y) refl among (λ there. among-kept f x xs there passes)
  where
    at : (b : Bool) → f y ≡ b → (x ≡ y) ⊎ IsAmong x xs → (IsAmong x xs → IsAmong x (filter f xs))
        → IsAmong x (cond b (y ∷ filter f xs) (filter f xs))
    at true is (inl here) later = inl here
    at true is (inr there) later = inr (later there)
    at false is (inl here) later = absurd (true≢false (sym passes ∙ ap f here ∙ is))
    at false is (inr there) later = later there

-- an item that is made of what passes
pub made-of : (S : Type 0) (f : S → Bool) (g : S → Item) (x : Item) (ss : List S) → IsAmong x (map g (filter f ss))
    → (s : S) × IsAmong s ss × (f s ≡ true) × (x ≡ g s)
made-of S f g x [] among = absurd among
made-of S f g x (s ∷ ss) among = at (f s) refl among (made-of S f g x ss)
  where
    moved : (t : S) × IsAmong t ss × (f t ≡ true) × (x ≡ g t) → (t : S) × IsAmong t (s ∷ ss) × (f t ≡ true) × (x ≡ g t)
    moved (t, there, passes, is) = (t, inr there, passes, is)

    at : (b : Bool) → f s ≡ b → IsAmong x (map g (cond b (s ∷ filter f ss) (filter f ss)))
        → (IsAmong x (map g (filter f ss)) → (t : S) × IsAmong t ss × (f t ≡ true) × (x ≡ g t))
        → (t : S) × IsAmong t (s ∷ ss) × (f t ≡ true) × (x ≡ g t)
    at true passes (inl here) later = (s, inl refl, passes, here)
    at true passes (inr there) later = moved (later there)
    at false fails there later = moved (later there)

-- what was opened is there with its number
among-numbered : (os : List PatternText) (p : PatternText) → 1 ≤ number_among os p → IsAmong (number_among os p, p) (numbered os)
among-numbered [] p some = absurd (omega arith)
among-numbered (q ∷ older) p some = at (same_pattern q p) refl some (among-numbered older p)
  where
    at : (b : Bool) → same_pattern q p ≡ b → 1 ≤ cond b (length older + 1) (number_among older p)
        → (1 ≤ number_among older p → IsAmong (number_among older p, p) (numbered older))
        → IsAmong (cond b (length older + 1) (number_among older p), p) (numbered older ++ (length older + 1, q) ∷ [])
    at true is some_here later =
        among-second (length older + 1, p) (numbered older) ((length older + 1, q) ∷ [])
        (inl (ap (λ x. (length older + 1, x)) (sym (same_pattern-true q p is))))
    at false is some_here later = among-first (number_among older p, p) (numbered older) ((length older + 1, q) ∷ []) (later some_here)

-- what is held is held by its number
pub among-held : (h : History) (c : ℕ) (p : PatternText) → holds h c p ≡ true → IsAmong (number h p, p) (held h c)
among-held h c p is =
    let passes : (holds h c p && eqb (number h p) (number h p)) ≡ true = ap (λ b. b && eqb (number h p) (number h p)) is
    ∙ eq-eqb (number h p) (number h p) refl in
    among-kept (λ s. holds h c s.1 && eqb (number_among (opened h) s.1) s.0) (number h p, p) (numbered (opened h))
    (among-numbered (opened h) p (held-number h c p is)) passes
