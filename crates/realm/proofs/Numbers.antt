-- How many subscriptions were opened, and their numbers.
use Rattle.std.proofs.Common.{◌≡◌, ℕ, suc, ◌+◌, ◌≤◌, Bool, true, false, cond, not, ◌&&◌, ◌||◌, eqb, List, [], ◌∷◌, ◌++◌, length, refl, Ok, Err, arith, ⊎_elim}
use Rattle.std.specs.declared.result.Result.{Result}
use Rattle.std.specs.List.{list_any}
use Rattle.std.proofs.lemmas.Bool.{and_parts, or_cases}
use Rattle.wamp_ids.proofs.Lemmas.{same_pattern-refl, same_pattern-true}
use Rattle.wamp_ids.specs.Pattern.{PatternText, same_pattern}
use Rattle.realm.specs.declared.entry.Entry.TheVariants.{Said}
use Rattle.wamp_messages.specs.declared.said.Said.TheVariants.{Subscribe, Unsubscribe}
use Rattle.wamp_messages.specs.declared.item.Reason.{Reason}
use Rattle.realm.specs.History.{History, begun, ◌▷◌}
use Rattle.realm.specs.Sessions.{joined, ends}
use Rattle.realm.specs.Subscriptions.{holds, opened, number, number_among, if_new, is_of, subscribed}

-- somebody has it
pub record Somebody (P : ℕ → Bool) : Type 0 where
  pub one : ℕ
  pub is : P one ≡ true

pub list_any-true : (P : ℕ → Bool) (xs : List ℕ) → list_any P xs ≡ true → Somebody P
list_any-true P [] e = absurd (cc)
list_any-true P (x ∷ xs) e = at (P x) refl e (list_any-true P xs)
  where
    at : (b : Bool) → P x ≡ b → b || list_any P xs ≡ true → (list_any P xs ≡ true → Somebody P) → Somebody P
    at true is any later = record { one = x; is = is }
    at false is any later = later any

-- a number is at most how many were opened
pub number_among-le : (os : List PatternText) (p : PatternText) → number_among os p ≤ length os
number_among-le [] p = omega arith
number_among-le (q ∷ os) p = at (same_pattern q p) (number_among-le os p)
  where
    at : (b : Bool) → number_among os p ≤ length os → cond b (length os + 1) (number_among os p) ≤ suc (length os)
    at true l = omega arith
    at false l = omega arith

-- what is held has a number
number-if_new : (somebody : PatternText → Bool) (os : List PatternText) (r : Result PatternText Reason) (p : PatternText)
    → 1 ≤ number_among os p → 1 ≤ number_among (if_new somebody r ++ os) p
number-if_new somebody os (Err reason) p some = some
number-if_new somebody os (Ok q) p some = at (somebody q)
  where
    at_same : (b : Bool) → 1 ≤ cond b (length os + 1) (number_among os p)
    at_same true = omega arith
    at_same false = some

    at : (b : Bool) → 1 ≤ number_among (cond b [] (q ∷ []) ++ os) p
    at true = some
    at false = at_same (same_pattern q p)

number-of_new : (somebody : PatternText → Bool) (os : List PatternText) (r : Result PatternText Reason) (p : PatternText)
    → is_of p r ≡ true → (somebody p ≡ true → 1 ≤ number_among os p) → 1 ≤ number_among (if_new somebody r ++ os) p
number-of_new somebody os (Err reason) p is some = absurd (cc)
number-of_new somebody os (Ok q) p is some = rw (same_pattern-true q p is) (at (somebody p) refl)
  where
    at : (b : Bool) → somebody p ≡ b → 1 ≤ number_among (cond b [] (p ∷ []) ++ os) p
    at true held = some held
    at false held = rw (same_pattern-refl p) (omega arith)

pub held-number : (h : History) (c : ℕ) (p : PatternText) → holds h c p ≡ true → 1 ≤ number h p
unfolding holds opened
held-number (begun grants) c p held = absurd (cc)
held-number (h ▷ Said d word (Subscribe request options topic)) c p held =
    let somebody : PatternText → Bool = λ q. list_any (λ e. holds h e q) (joined h) in
    let r = subscribed h d options topic in
    ⊎_elim
    (λ before. number-if_new somebody (opened h) r p (held-number h c p before))
    (λ new. number-of_new somebody (opened h) r p (and_parts (eqb d c) (is_of p r) new).1
    (λ some. let s = list_any-true (λ e. holds h e p) (joined h) some in held-number h s.one p s.is))
    (or_cases (holds h c p) (eqb d c && is_of p r) held)
held-number (h ▷ Said d word (Unsubscribe request n)) c p held =
    held-number h c p (and_parts (holds h c p) (not (eqb d c && eqb (number_among (opened h) p) n)) held).0
held-number (h ▷ e) c p held = held-number h c p (and_parts (holds h c p) (not (ends e c)) held).0
