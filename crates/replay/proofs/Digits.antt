-- Reading digits, one after another.
use Rattle.std.proofs.Common.{◌≡◌, ℕ, zero, suc, ◌+◌, ◌*◌, ◌-◌, ◌<◌, ◌≤◌, Bool, true, false, cond, ◌&&◌, eqb, List, [], ◌∷◌, length, drop, get_or, add-one, refl, ap, ◌∙◌, None, Some, arith}
use Rattle.std.specs.Prelude.{nat_le, IfSome, IsNone, ◌↔◌}
use Rattle.std.specs.Char.{is_ascii_digit}
use Rattle.std.specs.declared.option.Option.{Option}
use Rattle.std.proofs.Math.Seq.{drop-cons}
use Rattle.std.proofs.lemmas.List.{drop_all}
use Rattle.std.proofs.lemmas.Bool.{eq-eqb}
use Rattle.std.proofs.lemmas.Bool.Decides.{nat_tests}
use Rattle.replay.specs.Lines.{at_most_256, from_1, goes_on, is_number, number_in}

is-digit : (c : ℕ) (b : Bool) → is_ascii_digit c ≡ b → nat_le 48 c && nat_le c 57 ≡ b
is-digit c true is = grind (arith, nat_tests)
is-digit c false is = grind (arith, nat_tests)

-- one digit more
pub goes_on-more : (ds : List ℕ) (i n : ℕ) → i < length ds → is_ascii_digit (get_or ds i 0) ≡ true
    → goes_on n (drop i ds) ≡ goes_on (n * 10 + (get_or ds i 0 - 48)) (drop (i + 1) ds)
goes_on-more ds i n small digit =
    let here : drop i ds ≡ get_or ds i 0 ∷ drop (i + 1) ds = rw add-one (drop-cons ds i 0 small) in
    ap (goes_on n) here ∙ ap (λ b. cond b (goes_on (n * 10 + (get_or ds i 0 - 48)) (drop (i + 1) ds)) None) (is-digit (get_or ds i 0) true digit)

-- what is no digit
pub goes_on-stops : (ds : List ℕ) (i n : ℕ) → i < length ds → is_ascii_digit (get_or ds i 0) ≡ false → goes_on n (drop i ds) ≡ None
goes_on-stops ds i n small other =
    let here : drop i ds ≡ get_or ds i 0 ∷ drop (i + 1) ds = rw add-one (drop-cons ds i 0 small) in
    ap (goes_on n) here ∙ ap (λ b. cond b (goes_on (n * 10 + (get_or ds i 0 - 48)) (drop (i + 1) ds)) None) (is-digit (get_or ds i 0) false other)

pub goes_on-end : (ds : List ℕ) (i n : ℕ) → length ds ≤ i → goes_on n (drop i ds) ≡ Some n
goes_on-end ds i n past = ap (goes_on n) (drop_all i ds past)

-- a number over 256 stays so
pub too-great : (cs : List ℕ) (n : ℕ) → 256 < n → at_most_256 (goes_on n cs) ≡ None
too-great [] n great = let e : nat_le n 256 ≡ false = grind (arith, nat_tests) in rw e
too-great (c ∷ cs) n great = at (nat_le 48 c && nat_le c 57) (too-great cs (n * 10 + (c - 48)) (omega arith))
  where
    at : (b : Bool) → at_most_256 (goes_on (n * 10 + (c - 48)) cs) ≡ None → at_most_256 (cond b (goes_on (n * 10 + (c - 48)) cs) None) ≡ None
    at true e = e
    at false e = refl

pub in-range : (n : ℕ) → n ≤ 256 → at_most_256 (Some n) ≡ Some n
in-range n small = let e : nat_le n 256 ≡ true = grind (arith, nat_tests) in rw e

pub number_in-some : (ds : List ℕ) → 0 < length ds → (get_or ds 0 0 ≡ 48 → ⊥) → number_in ds ≡ from_1 (at_most_256 (goes_on 0 ds))
number_in-some [] some differs = absurd (omega arith)
number_in-some (c ∷ cs) some differs = let other : eqb c 48 ≡ false = grind (arith, nat_tests) in rw other

pub number_in-none : (ds : List ℕ) → at_most_256 (goes_on 0 ds) ≡ None → number_in ds ≡ None
number_in-none [] none = refl
number_in-none (c ∷ cs) none = at (eqb c 48)
  where
    at : (b : Bool) → cond b None (from_1 (at_most_256 (goes_on 0 (c ∷ cs)))) ≡ None
    at true = refl
    at false = ap from_1 none

pub number_in-zero : (ds : List ℕ) → get_or ds 0 0 ≡ 48 → number_in ds ≡ None
number_in-zero [] zero_first = refl
number_in-zero (c ∷ cs) zero_first = let same : eqb c 48 ≡ true = eq-eqb c 48 zero_first in rw same

pub conn-some : (n c : ℕ) → c ≡ n → 1 ≤ c → Some c ≡ from_1 (Some n)
conn-some n c is some = let e : nat_le 1 n ≡ true = grind (arith, nat_tests) in rw e (ap Some is)

pub conn-none : (n : ℕ) → n ≡ 0 → None ≡ from_1 (Some n)
conn-none n is = rw is refl

-- the connection of a number
pub conn-new : (r : Option ℕ) (n : ℕ) → IfSome r (λ c. c ≡ n) → (IsNone r ↔ (n ≡ 0)) → r ≡ from_1 (Some n)
conn-new None n value none = conn-none n (none.0 refl)
conn-new (Some c) zero value none = absurd (let e = none.1 refl in cc)
conn-new (Some c) (suc m) value none = conn-some (suc m) c value (omega arith)

pub conn-range : (r : Option ℕ) (n : ℕ) → n ≤ 256 → IfSome r (λ c. c ≡ n) → (IsNone r ↔ (n ≡ 0)) → IfSome r (λ c. is_number c ≡ true)
conn-range None n small value none = tt
conn-range (Some c) zero small value none = absurd (let e = none.1 refl in cc)
conn-range (Some c) (suc m) small value none =
    let low : nat_le 1 c ≡ true = grind (arith, nat_tests) in
    let high : nat_le c 256 ≡ true = grind (arith, nat_tests) in
    rw (low, high)
