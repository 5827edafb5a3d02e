-- The number of a line is read from what it is written as.
use Rattle.std.proofs.Common.{◌≡◌, ℕ, ◌+◌, ◌*◌, ◌-◌, ◌/◌, ◌%◌, ◌^◌, ◌<◌, ◌≤◌, Bool, true, false, cond, ◌&&◌, eqb, nat_lt, List, [], ◌∷◌, ◌++◌, length, get_or, Option, None, Some, refl, sym, ap, ◌∙◌, subst, arith}
use Rattle.std.specs.Prelude.{nat_le, decimal}
use Rattle.std.specs.Char.{digit_value}
use Rattle.std.specs.Str.Parse.{AllDigits, digits_value, digits_value_after}
use Rattle.std.proofs.lemmas.Bool.Decides.{nat_tests}
use Rattle.std.proofs.lemmas.Fmt.{decimal_digit, decimal_step, decimal_is_IsNumeral, decimal-digits_value}
use Rattle.std.proofs.lemmas.Str.Parse.{IsNumeralModel, digit_from_value}
use Rattle.replay.specs.Laws.{NumbersAreDecimal}
use Rattle.replay.specs.Lines.{at_most_256, from_1, goes_on, number_in}
use Rattle.replay.proofs.Digits.{in-range, number_in-some}

-- what the scanner takes for a digit has a value below 10
taken : (c : ℕ) → nat_le 48 c && nat_le c 57 ≡ true → digit_value c ≡ c - 48
taken c digit =
    let low : nat_lt c 48 ≡ false = grind (arith, nat_tests) in
    let high : nat_lt c 58 ≡ true = grind (arith, nat_tests) in
    rw (low, high) refl

taken-range : (c : ℕ) → nat_le 48 c && nat_le c 57 ≡ true → (48 ≤ c) × (c ≤ 57)
taken-range c digit = (grind (arith, nat_tests), grind (arith, nat_tests))

digit-taken : (c : ℕ) → digit_value c < 10 → nat_le 48 c && nat_le c 57 ≡ true
digit-taken c small = let range = digit_from_value c small in grind (arith, nat_tests)

-- digits go on to the value that they write
value-read : (n : ℕ) (ds : List ℕ) → AllDigits 10 ds → goes_on n ds ≡ Some (digits_value_after 10 n ds)
value-read n [] digits = refl
value-read n (c ∷ cs) digits =
    let digit = digit-taken c digits.0 in
    rw digit (ap (λ d. goes_on (n * 10 + d) cs) (sym (taken c digit)) ∙ value-read (n * 10 + digit_value c) cs digits.1)

-- what was read are digits, of that value
record WasRead (n : ℕ) (ds : List ℕ) (m : ℕ) : Type 0 where
  digits : AllDigits 10 ds
  value : m ≡ digits_value_after 10 n ds

was-read : (n : ℕ) (ds : List ℕ) (m : ℕ) → goes_on n ds ≡ Some m → WasRead n ds m
was-read n [] m read = record { digits = tt; value = let same : n ≡ m = cc in sym same }
was-read n (c ∷ cs) m read = at (nat_le 48 c && nat_le c 57) refl (was-read (n * 10 + (c - 48)) cs m) read
  where
    at : (b : Bool) → nat_le 48 c && nat_le c 57 ≡ b → (goes_on (n * 10 + (c - 48)) cs ≡ Some m → WasRead (n * 10 + (c - 48)) cs m)
        → cond b (goes_on (n * 10 + (c - 48)) cs) None ≡ Some m → WasRead n (c ∷ cs) m
    at false is later e = absurd (cc)
    at true is later e =
        let rest = later e in
        let range = taken-range c is in
        let value = taken c is in
        record { digits = (omega arith, rest.digits); value = rest.value ∙ ap (λ d. digits_value_after 10 (n * 10 + d) cs) (sym value) }

at-most : (o : Option ℕ) (n : ℕ) → from_1 (at_most_256 o) ≡ Some n → (o ≡ Some n) × (1 ≤ n) × (n ≤ 256)
at-most None n e = absurd (cc)
at-most (Some m) n e = at (nat_le m 256) refl e
  where
    low : (b : Bool) → nat_le 1 m ≡ b → cond b (Some m) None ≡ Some n → (m ≡ n) × (1 ≤ m)
    low true is e = ((cc), grind (arith, nat_tests))
    low false is e = absurd (cc)

    at : (b : Bool) → nat_le m 256 ≡ b → from_1 (cond b (Some m) None) ≡ Some n → (Some m ≡ Some n) × (1 ≤ n) × (n ≤ 256)
    at false is e = absurd (cc)
    at true is e =
        let both = low (nat_le 1 m) refl e in
        let small : m ≤ 256 = grind (arith, nat_tests) in
        (ap Some both.0, subst (λ k. 1 ≤ k) both.0 both.1, subst (λ k. k ≤ 256) both.0 small)

own : IsNumeralModel (AllDigits 10) (digits_value 10)
own = record { to = λ ds digits. digits; from = λ ds digits. digits; same = λ ds digits. refl }

read-decimal : (ds : List ℕ) (n : ℕ) → number_in ds ≡ Some n → (ds ≡ decimal n) × (1 ≤ n) × (n ≤ 256)
read-decimal [] n e = absurd (cc)
read-decimal (c ∷ cs) n e = at (eqb c 48) refl e
  where
    at : (b : Bool) → eqb c 48 ≡ b → cond b None (from_1 (at_most_256 (goes_on 0 (c ∷ cs)))) ≡ Some n → (c ∷ cs ≡ decimal n) × (1 ≤ n) × (n ≤ 256)
    at true is e = absurd (cc)
    at false is e =
        let range = at-most (goes_on 0 (c ∷ cs)) n e in
        let read = was-read 0 (c ∷ cs) n range.0 in
        let other : c ≡ 48 → ⊥ = λ same. absurd (grind (arith, nat_tests)) in
        let small : digits_value 10 (c ∷ cs) < 2 ^ 64 = omega (arith, read.value, range.2) in
        let written = decimal-digits_value own (c ∷ cs) read.digits (omega arith) (λ same. absurd (other same)) small in
        (sym written ∙ ap decimal (sym read.value), range.1, range.2)

-- the first digit isn't 0
record IsLed (ds : List ℕ) : Type 0 where
  some : 0 < length ds
  lead : get_or ds 0 0 ≡ 48 → ⊥

led-on : (ds more : List ℕ) → IsLed ds → IsLed (ds ++ more)
led-on [] more led = absurd (omega (arith, led.some))
led-on (c ∷ cs) more led = record { some = omega arith; lead = led.lead }

led-1 : (n : ℕ) → 1 ≤ n → n < 10 → IsLed (decimal n)
led-1 n some small = subst IsLed (sym (decimal_digit n small)) (record { some = omega arith; lead = λ same. omega (arith, same, some) })

led-by : (bound n : ℕ) → ((m : ℕ) → 1 ≤ m → m < bound → IsLed (decimal m)) → 1 ≤ n → n < bound * 10 → n < 2 ^ 64 → IsLed (decimal n)
led-by bound n shorter some small fits = at (nat_lt n 10) refl
  where
    at : (b : Bool) → nat_lt n 10 ≡ b → IsLed (decimal n)
    at true is = led-1 n some (grind (arith, nat_tests))
    at false is =
        let long : 10 ≤ n = grind (arith, nat_tests) in
        let front : n / 10 < bound = omega arith in
        subst IsLed (sym (decimal_step n long fits)) (led-on (decimal (n / 10)) ((48 + n % 10) ∷ []) (shorter (n / 10) (omega arith) front))

led : (n : ℕ) → 1 ≤ n → n ≤ 256 → IsLed (decimal n)
led n some small = led-by 100 n (λ m has few. led-by 10 m led-1 has (omega (arith, few)) (omega (arith, few))) some (omega arith) (omega arith)

decimal-read : (ds : List ℕ) (n : ℕ) → ds ≡ decimal n → 1 ≤ n → n ≤ 256 → number_in ds ≡ Some n
decimal-read ds n is some small =
    let numeral = decimal_is_IsNumeral n (omega arith) in
    let first = led n some small in
    let read : goes_on 0 (decimal n) ≡ Some n = value-read 0 (decimal n) numeral.0.1 ∙ ap Some numeral.1 in
    let low : nat_le 1 n ≡ true = grind (arith, nat_tests) in
    ap number_in is ∙ (number_in-some (decimal n) first.some first.lead ∙ (ap (λ o. from_1 (at_most_256 o)) read ∙ (ap from_1 (in-range n small) ∙ rw low refl)))

pub numbers-are-decimal : NumbersAreDecimal
numbers-are-decimal ds n = (read-decimal ds n, λ h. decimal-read ds n h.0 h.1 h.2)
