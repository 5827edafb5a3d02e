-- What commands keep.
use Rattle.std.proofs.Common.{◌≡◌, ℕ, Bool, true, false, cond, not, ◌==◌, ◌||◌, ◌+◌, ◌<◌, ◌≤◌, nat_lt, List, [], ◌∷◌, ◌++◌, Some, None, Option, refl, sym, ap, ◌∙◌, subst, arith}
use Rattle.std.specs.List.{filter}
use Rattle.std.proofs.lemmas.Bool.Decides.{nat_tests}
use Rattle.std.proofs.lemmas.Bool.{and_parts, ltb-true}
use Rattle.std.proofs.lemmas.Option.{same_Some, none-some}
use Rattle.std.proofs.Math.Nat.{le_trans}
use Rattle.wamp_ids.specs.Pattern.{PatternText, same_pattern}
use Rattle.subscription_index.specs.Index.{Row, Held, IsIndex, is_before, number_held, number_of, count_of, insert_row, is_meant, left, joined_or_opened, subscribed_by, subscribed}
use Rattle.subscription_index.specs.Members.{same_row, has_row}
use Rattle.subscription_index.specs.Commands.{Command, held_or, after, opening_by, openings}
use Rattle.subscription_index.specs.Commands.Command.{Hold, Release, DropAll}
use Rattle.subscription_index.specs.Laws.{CountOnFrom}
use Rattle.subscription_index.proofs.NumbersNamePatterns.{names_held}
use Rattle.subscription_index.proofs.IndexLemmas.{joined, opened_anew, left_over}
use Rattle.subscription_index.proofs.Members.{same_row_is, has_row-insert, has_row-left, has_row-number_held, has_row-number_of, has_row-no_number, has_row-named, number_of-has_row}

-- the four answers to a subscription: refused; held already; joined; opened
pub subscribed_cases : (v : Held) (c : ℕ) (p : PatternText) (P : Option (ℕ × Held) → Type 0) → P None → ((n : ℕ) → number_held v.rows c p ≡ Some n → P (Some (n, v))) → ((n : ℕ) → number_held v.rows c p ≡ None → nat_lt (count_of v.rows c) 256 ≡ true → number_of v.rows p ≡ Some n → P (Some (n, record { rows = insert_row ((c, n), p) v.rows; opened = v.opened }))) → (nat_lt (count_of v.rows c) 256 ≡ true → number_of v.rows p ≡ None → nat_lt v.opened 9007199254740992 ≡ true → P (Some (v.opened + 1, record { rows = insert_row ((c, v.opened + 1), p) v.rows; opened = v.opened + 1 }))) → P (subscribed v c p)
subscribed_cases v c p P refused again joins opens =
    elim (number_held v.rows c p) as (λ h. number_held v.rows c p ≡ h → P (subscribed_by v c p h)) [
      | Some n ↦ λ f. again n f
      | None ↦ λ f. elim (nat_lt (count_of v.rows c) 256) as (λ r. nat_lt (count_of v.rows c) 256 ≡ r → P (cond r (joined_or_opened v c p (number_of v.rows p)) None)) [
        | true ↦ λ g. elim (number_of v.rows p) as (λ m. number_of v.rows p ≡ m → P (joined_or_opened v c p m)) [
          | Some n ↦ λ h. joins n f g h
          | None ↦ λ h. elim (nat_lt v.opened 9007199254740992) as (λ r. nat_lt v.opened 9007199254740992 ≡ r → P (cond r (Some (v.opened + 1, record { rows = insert_row ((c, v.opened + 1), p) v.rows; opened = v.opened + 1 })) None)) [
            | true ↦ λ i. opens g h i
            | false ↦ λ i. refused
          ] refl
        ] refl
        | false ↦ λ g. refused
      ] refl
    ] refl

pub index-after : (v : Held) (command : Command) → IsIndex v → IsIndex (after v command)
index-after v (Hold c p) is =
    subscribed_cases v c p (λ o. IsIndex (held_or v o)) is (λ n f. is) (λ n f g h. joined v c p n is f h) (λ g h i. opened_anew v c p is h (ltb-true v.opened 9007199254740992 i))
index-after v (Release c n) is = left_over v c (Some n) is
index-after v (DropAll c) is = left_over v c None is

pub index-none : IsIndex (record { rows = []; opened = 0 })
index-none = record { ascending = tt; named = tt; numbered = tt; bounded = omega arith }

-- what c holds has a number
held_has_number : {P : Type 0} (rows : List Row) (c : ℕ) (p : PatternText) (n : ℕ) → number_held rows c p ≡ Some n → number_of rows p ≡ None → P
held_has_number rows c p n e f =
    let g : true ≡ false = sym (has_row-number_held rows c p n e) ∙ has_row-no_number rows p f c n in
    cc

pub counts_on : (commands : List Command) (v : Held) → CountOnFrom v.opened (openings v commands)
counts_on [] v = tt
counts_on (Hold c p ∷ ks) v =
    elim (number_of v.rows p) as (λ m. number_of v.rows p ≡ m → CountOnFrom v.opened (opening_by m (subscribed v c p) ++ openings (held_or v (subscribed v c p)) ks)) [
      | Some n ↦ λ h. subscribed_cases v c p (λ o. CountOnFrom v.opened (openings (held_or v o) ks)) (counts_on ks v) (λ k f. counts_on ks v) (λ k f g i. counts_on ks (record { rows = insert_row ((c, k), p) v.rows; opened = v.opened })) (λ g i j. absurd (none-some n (sym i ∙ h)))
      | None ↦ λ h. subscribed_cases v c p (λ o. CountOnFrom v.opened (opening_by None o ++ openings (held_or v o) ks)) (counts_on ks v) (λ k f. held_has_number v.rows c p k f h) (λ k f g i. absurd (none-some k (sym h ∙ i))) (λ g i j. (refl, counts_on ks (record { rows = insert_row ((c, v.opened + 1), p) v.rows; opened = v.opened + 1 })))
    ] refl
counts_on (Release c n ∷ ks) v = counts_on ks (record { rows = left v.rows c (Some n); opened = v.opened })
counts_on (DropAll c ∷ ks) v = counts_on ks (record { rows = left v.rows c None; opened = v.opened })

-- two held patterns are one exactly where their numbers are
pub named_by_numbers : (v : Held) (c d n m : ℕ) (p q : PatternText) → IsIndex v → has_row v.rows ((c, n), p) ≡ true → has_row v.rows ((d, m), q) ≡ true → same_pattern p q ≡ (n == m)
named_by_numbers v c d n m p q is e f =
    has_row-named n p v.rows d m q (names_held v.rows p n is.named (number_of-has_row v.rows c n p is.named e)) f

-- a row that was there has the number
was_there : (v : Held) (d m n : ℕ) (p : PatternText) → IsIndex v → number_of v.rows p ≡ Some n → has_row v.rows ((d, m), p) ≡ true → n ≡ m
was_there v d m n p is a e = same_Some n m (sym a ∙ number_of-has_row v.rows d m p is.named e)

-- a row after an insert
one_more : (v : Held) (c k : ℕ) (q p : PatternText) (n m : ℕ) → IsIndex v → number_of v.rows p ≡ Some n → (q ≡ p → k ≡ m → n ≡ m) → number_of (insert_row ((c, k), q) v.rows) p ≡ Some m → n ≡ m
one_more v c k q p n m is a itself e =
    let r = has_row-number_of (insert_row ((c, k), q) v.rows) p m e in
    let s : same_row ((c, k), q) ((r.0, m), p) || has_row v.rows ((r.0, m), p) ≡ true = sym (has_row-insert ((c, k), q) v.rows ((r.0, m), p)) ∙ r.1 in
    elim (same_row ((c, k), q) ((r.0, m), p)) as (λ b. same_row ((c, k), q) ((r.0, m), p) ≡ b → b || has_row v.rows ((r.0, m), p) ≡ true → n ≡ m) [
      | true ↦ λ h f.
          let one : ((c, k), q) ≡ ((r.0, m), p) = same_row_is ((c, k), q) ((r.0, m), p) h in
          itself (ap (λ (x : Row). x.1) one) (ap (λ (x : Row). x.0.1) one)
      | false ↦ λ h f. was_there v r.0 m n p is a f
    ] refl s

fewer : (v : Held) (c : ℕ) (number : Option ℕ) (p : PatternText) (n m : ℕ) → IsIndex v → number_of v.rows p ≡ Some n → number_of (left v.rows c number) p ≡ Some m → n ≡ m
fewer v c number p n m is a e =
    let r = has_row-number_of (left v.rows c number) p m e in
    let s = and_parts (not (is_meant c number ((r.0, m), p))) (has_row v.rows ((r.0, m), p)) (sym (has_row-left v.rows c number ((r.0, m), p)) ∙ r.1) in
    was_there v r.0 m n p is a s.1

pub held_number_stays : (v : Held) (command : Command) (p : PatternText) (n m : ℕ) → IsIndex v → number_of v.rows p ≡ Some n → number_of (after v command).rows p ≡ Some m → n ≡ m
held_number_stays v (Hold c q) p n m is a =
    subscribed_cases v c q (λ o. number_of (held_or v o).rows p ≡ Some m → n ≡ m) same (λ k f. same) (λ k f g h. one_more v c k q p n m is a (joins k h)) (λ g h i. one_more v c (v.opened + 1) q p n m is a (opens h))
  where
    same : number_of v.rows p ≡ Some m → n ≡ m
    same e = same_Some n m (sym a ∙ e)

    joins : (k : ℕ) → number_of v.rows q ≡ Some k → q ≡ p → k ≡ m → n ≡ m
    joins k h e f = same (sym (ap (λ z. number_of v.rows z) e) ∙ h ∙ ap (λ z. Some z) f)

    opens : number_of v.rows q ≡ None → q ≡ p → v.opened + 1 ≡ m → n ≡ m
    opens h e f = absurd (none-some n (sym h ∙ ap (λ z. number_of v.rows z) e ∙ a))
held_number_stays v (Release c k) p n m is a = fewer v c (Some k) p n m is a
held_number_stays v (DropAll c) p n m is a = fewer v c None p n m is a

pub count-insert : (r : Row) (rows : List Row) (c : ℕ) → count_of (insert_row r rows) c ≡ cond (r.0.0 == c) 1 0 + count_of rows c
count-insert r [] c = refl
count-insert r (x ∷ xs) c = elim (is_before x.0 r.0) as (λ b. count_of (cond b (x ∷ insert_row r xs) (r ∷ x ∷ xs)) c ≡ cond (r.0.0 == c) 1 0 + (cond (x.0.0 == c) 1 0 + count_of xs c)) [
  | true ↦ swap (cond (x.0.0 == c) 1 0) (cond (r.0.0 == c) 1 0) (count_of xs c) (count_of (insert_row r xs) c) (count-insert r xs c)
  | false ↦ refl
]
  where
    swap : (a b n m : ℕ) → m ≡ b + n → a + m ≡ b + (a + n)
    swap a b n m e = omega arith

count-filter : (t : Row → Bool) (rows : List Row) (c : ℕ) → count_of (filter t rows) c ≤ count_of rows c
count-filter t [] c = omega arith
count-filter t (x ∷ xs) c = elim (t x) as (λ b. count_of (cond b (x ∷ filter t xs) (filter t xs)) c ≤ cond (x.0.0 == c) 1 0 + count_of xs c) [
  | true ↦ more (cond (x.0.0 == c) 1 0) (count_of (filter t xs) c) (count_of xs c) (count-filter t xs c)
  | false ↦ less (cond (x.0.0 == c) 1 0) (count_of (filter t xs) c) (count_of xs c) (count-filter t xs c)
]
  where
    more : (a n m : ℕ) → n ≤ m → a + n ≤ a + m
    more a n m h = omega arith

    less : (a n m : ℕ) → n ≤ m → n ≤ a + m
    less a n m h = omega arith

within : (c d n m : ℕ) → (c ≡ d → n < 256) → n ≤ 256 → m ≡ cond (c == d) 1 0 + n → m ≤ 256
within c d n m room few e = grind (arith, nat_tests)

room_for : (rows : List Row) (c d : ℕ) → nat_lt (count_of rows c) 256 ≡ true → c ≡ d → count_of rows d < 256
room_for rows c d g e = subst (λ z. count_of rows z < 256) e (ltb-true (count_of rows c) 256 g)

pub held_at_most : (v : Held) (command : Command) → ((c : ℕ) → count_of v.rows c ≤ 256) → (d : ℕ) → count_of (after v command).rows d ≤ 256
held_at_most v (Hold c p) few d =
    subscribed_cases v c p (λ o. count_of (held_or v o).rows d ≤ 256) (few d) (λ n f. few d) (λ n f g h. inserted n g) (λ g h i. inserted (v.opened + 1) g)
  where
    inserted : (n : ℕ) → nat_lt (count_of v.rows c) 256 ≡ true → count_of (insert_row ((c, n), p) v.rows) d ≤ 256
    inserted n g = within c d (count_of v.rows d) (count_of (insert_row ((c, n), p) v.rows) d) (room_for v.rows c d g) (few d) (count-insert ((c, n), p) v.rows d)
held_at_most v (Release c n) few d = le_trans (count-filter (λ r. not (is_meant c (Some n) r)) v.rows d) (few d)
held_at_most v (DropAll c) few d = le_trans (count-filter (λ r. not (is_meant c None r)) v.rows d) (few d)
