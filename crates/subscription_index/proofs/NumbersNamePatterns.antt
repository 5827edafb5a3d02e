-- One number for one pattern.
use Rattle.std.proofs.Common.{◌≡◌, ℕ, Bool, true, false, cond, ◌==◌, ◌&&◌, ◌||◌, ◌+◌, ◌≤◌, List, [], ◌∷◌, Some, None, refl, sym, ap, ◌∙◌, subst, arith}
use Rattle.std.specs.List.{filter}
use Rattle.std.proofs.lemmas.Bool.Decides.{nat_tests}
use Rattle.std.proofs.lemmas.Bool.{eq-eqb}
use Rattle.std.proofs.lemmas.Option.{same_Some}
use Rattle.wamp_ids.proofs.Lemmas.{same_pattern-true}
use Rattle.wamp_ids.specs.Pattern.{PatternText, same_pattern}
use Rattle.subscription_index.specs.Index.{Row, is_before, keys, NamesInAll, IsNamed, IsNumberedTo, number_held, number_of, insert_row, same_key, has_key}
use Rattle.subscription_index.proofs.Arithmetic.{eqb_comm}
use Rattle.subscription_index.proofs.Patterns.{same_either}

-- q has the number m in all rows: then p is q exactly where the number of p is m
pub number_named : (m : ℕ) (q : PatternText) (rows : List Row) (p : PatternText) (n : ℕ) → NamesInAll m q rows → number_of rows p ≡ Some n → same_pattern q p ≡ (m == n)
number_named m q [] p n all e = cc
number_named m q (x ∷ xs) p n all e =
    elim (same_pattern x.1 p) as (λ b. same_pattern x.1 p ≡ b → cond b (Some x.0.1) (number_of xs p) ≡ Some n → same_pattern q p ≡ (m == n)) [
      | true ↦ λ h f. subst (λ z. same_pattern q z ≡ (m == n)) (same_pattern-true x.1 p h) (all.0 ∙ ap (λ k. m == k) (same_Some x.0.1 n f))
      | false ↦ λ h f. number_named m q xs p n all.1 f
    ] refl e

-- the number of a pattern that somebody holds
pub names_held : (rows : List Row) (p : PatternText) (n : ℕ) → IsNamed rows → number_of rows p ≡ Some n → NamesInAll n p rows
names_held [] p n named e = tt
names_held (x ∷ xs) p n named e =
    elim (same_pattern x.1 p) as (λ b. same_pattern x.1 p ≡ b → cond b (Some x.0.1) (number_of xs p) ≡ Some n → NamesInAll n p (x ∷ xs)) [
      | true ↦ λ h f.
          let m : x.0.1 ≡ n = same_Some x.0.1 n f in
          let s : x.1 ≡ p = same_pattern-true x.1 p h in
          let here : same_pattern p x.1 ≡ (n == x.0.1) = same_either p x.1 ∙ h ∙ sym (eq-eqb n n refl) ∙ ap (λ k. n == k) (sym m) in
          let there : NamesInAll n x.1 xs = subst (λ k. NamesInAll k x.1 xs) m named.0 in
          (here, subst (λ z. NamesInAll n z xs) s there)
      | false ↦ λ h f.
          let k : same_pattern x.1 p ≡ (x.0.1 == n) = number_named x.0.1 x.1 xs p n named.0 f in
          (same_either p x.1 ∙ k ∙ eqb_comm x.0.1 n, names_held xs p n named.1 f)
    ] refl e

next_is_new : (a last : ℕ) → a ≤ last → (last + 1 == a) ≡ false
next_is_new a last h = grind (arith, nat_tests)

-- the next number, for a pattern that nobody holds
pub names_next : (rows : List Row) (p : PatternText) (last : ℕ) → IsNumberedTo last rows → number_of rows p ≡ None → NamesInAll (last + 1) p rows
names_next [] p last numbered e = tt
names_next (x ∷ xs) p last numbered e =
    elim (same_pattern x.1 p) as (λ b. same_pattern x.1 p ≡ b → cond b (Some x.0.1) (number_of xs p) ≡ None → NamesInAll (last + 1) p (x ∷ xs)) [
      | true ↦ λ h f. cc
      | false ↦ λ h f. (same_either p x.1 ∙ h ∙ sym (next_is_new x.0.1 last numbered.0.1), names_next xs p last numbered.1 f)
    ] refl e

-- c does not hold p: it holds nothing under p's number
pub absent_joined : (rows : List Row) (c : ℕ) (p : PatternText) (n : ℕ) → NamesInAll n p rows → number_held rows c p ≡ None → has_key (keys rows) (c, n) ≡ false
absent_joined [] c p n all e = refl
absent_joined (x ∷ xs) c p n all e =
    elim (x.0.0 == c && same_pattern x.1 p) as (λ b. x.0.0 == c && same_pattern x.1 p ≡ b → cond b (Some x.0.1) (number_held xs c p) ≡ None → has_key (keys (x ∷ xs)) (c, n) ≡ false) [
      | true ↦ λ h f. cc
      | false ↦ λ h f.
          let k : (x.0.1 == n) ≡ same_pattern x.1 p = eqb_comm x.0.1 n ∙ sym all.0 ∙ same_either p x.1 in
          let g : same_key x.0 (c, n) ≡ false = ap (λ z. x.0.0 == c && z) k ∙ h in
          ap (λ b. b || has_key (keys xs) (c, n)) g ∙ absent_joined xs c p n all.1 f
    ] refl e

next_key_is_new : (k : ℕ × ℕ) (c last : ℕ) → k.1 ≤ last → same_key k (c, last + 1) ≡ false
next_key_is_new k c last h = grind (arith, nat_tests)

-- nobody holds anything under the next number
pub absent_next : (rows : List Row) (c last : ℕ) → IsNumberedTo last rows → has_key (keys rows) (c, last + 1) ≡ false
absent_next [] c last numbered = refl
absent_next (x ∷ xs) c last numbered = ap (λ b. b || has_key (keys xs) (c, last + 1)) (next_key_is_new x.0 c last numbered.0.1) ∙ absent_next xs c last numbered.1

names-insert : (n : ℕ) (p : PatternText) (r : Row) (rows : List Row) → same_pattern p r.1 ≡ (n == r.0.1) → NamesInAll n p rows → NamesInAll n p (insert_row r rows)
names-insert n p r [] h all = (h, tt)
names-insert n p r (x ∷ xs) h all = elim (is_before x.0 r.0) as (λ b. NamesInAll n p (cond b (x ∷ insert_row r xs) (r ∷ x ∷ xs))) [
  | true ↦ (all.0, names-insert n p r xs h all.1)
  | false ↦ (h, all)
]

pub named-insert : (r : Row) (rows : List Row) → NamesInAll r.0.1 r.1 rows → IsNamed rows → IsNamed (insert_row r rows)
named-insert r [] all named = (tt, tt)
named-insert r (x ∷ xs) all named = elim (is_before x.0 r.0) as (λ b. IsNamed (cond b (x ∷ insert_row r xs) (r ∷ x ∷ xs))) [
  | true ↦ (names-insert x.0.1 x.1 r xs (same_either x.1 r.1 ∙ all.0 ∙ eqb_comm r.0.1 x.0.1) named.0, named-insert r xs all.1 named.1)
  | false ↦ (all, named)
]

pub numbered-insert : (last : ℕ) (r : Row) (rows : List Row) → (1 ≤ r.0.1) × (r.0.1 ≤ last) → IsNumberedTo last rows → IsNumberedTo last (insert_row r rows)
numbered-insert last r [] h all = (h, tt)
numbered-insert last r (x ∷ xs) h all = elim (is_before x.0 r.0) as (λ b. IsNumberedTo last (cond b (x ∷ insert_row r xs) (r ∷ x ∷ xs))) [
  | true ↦ (all.0, numbered-insert last r xs h all.1)
  | false ↦ (h, all)
]

names-filter : (n : ℕ) (p : PatternText) (t : Row → Bool) (rows : List Row) → NamesInAll n p rows → NamesInAll n p (filter t rows)
names-filter n p t [] all = tt
names-filter n p t (x ∷ xs) all = elim (t x) as (λ b. NamesInAll n p (cond b (x ∷ filter t xs) (filter t xs))) [
  | true ↦ (all.0, names-filter n p t xs all.1)
  | false ↦ names-filter n p t xs all.1
]

pub named-filter : (t : Row → Bool) (rows : List Row) → IsNamed rows → IsNamed (filter t rows)
named-filter t [] named = tt
named-filter t (x ∷ xs) named = elim (t x) as (λ b. IsNamed (cond b (x ∷ filter t xs) (filter t xs))) [
  | true ↦ (names-filter x.0.1 x.1 t xs named.0, named-filter t xs named.1)
  | false ↦ named-filter t xs named.1
]

pub numbered-filter : (last : ℕ) (t : Row → Bool) (rows : List Row) → IsNumberedTo last rows → IsNumberedTo last (filter t rows)
numbered-filter last t [] all = tt
numbered-filter last t (x ∷ xs) all = elim (t x) as (λ b. IsNumberedTo last (cond b (x ∷ filter t xs) (filter t xs))) [
  | true ↦ (all.0, numbered-filter last t xs all.1)
  | false ↦ numbered-filter last t xs all.1
]

up_to : (a last : ℕ) → (1 ≤ a) × (a ≤ last) → (1 ≤ a) × (a ≤ last + 1)
up_to a last h = (h.0, omega arith)

-- one more number
pub numbered_more : (last : ℕ) (rows : List Row) → IsNumberedTo last rows → IsNumberedTo (last + 1) rows
numbered_more last [] all = tt
numbered_more last (x ∷ xs) all = (up_to x.0.1 last all.0, numbered_more last xs all.1)

-- a number that somebody has is from 1 to the last
pub numbered_held : (last : ℕ) (rows : List Row) (p : PatternText) (n : ℕ) → IsNumberedTo last rows → number_of rows p ≡ Some n → (1 ≤ n) × (n ≤ last)
numbered_held last [] p n all e = cc
numbered_held last (x ∷ xs) p n all e =
    elim (same_pattern x.1 p) as (λ b. cond b (Some x.0.1) (number_of xs p) ≡ Some n → (1 ≤ n) × (n ≤ last)) [
      | true ↦ λ f. subst (λ k. (1 ≤ k) × (k ≤ last)) (same_Some x.0.1 n f) all.0
      | false ↦ λ f. numbered_held last xs p n all.1 f
    ] e
