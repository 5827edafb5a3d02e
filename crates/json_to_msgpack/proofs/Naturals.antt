-- Digits that are all of a number.
use Rattle.std.proofs.Common.{◌≡◌, ℕ, ◌+◌, ◌-◌, ◌*◌, ◌^◌, ◌<◌, ◌≤◌, true, false, ◌&&◌, ◌==◌, nat_lt, List, [], ◌∷◌, ◌++◌, length, take, drop, get_or, Some, refl, sym, ap, ◌∙◌, subst, append-nil, arith}
use Rattle.std.specs.Prelude.{if◌then◌else◌, slice_index}
use Rattle.std.specs.Char.{digit_value}
use Rattle.std.specs.Str.Parse.{digits_value, AllDigits}
use Rattle.std.proofs.lemmas.Bool.{ne_eqb, lt-ltb}
use Rattle.std.proofs.lemmas.List.{take_more}
use Rattle.std.proofs.lemmas.Str.{digit_value_digit}
use Rattle.std.proofs.lemmas.Int.Digits.{digits_value_more}
use Rattle.fast_float.specs.Text.{Parts, scan, IsWellFormed}
use Rattle.fast_float.proofs.Writing.{scan-text_of}
use Rattle.serde_json.specs.Data.{unsigned}
use Rattle.serde_json.specs.Read.{float_of, number_from, number_of}

digits_push : (s : List ℕ) (x : ℕ) → AllDigits 10 s → digit_value x < 10 → AllDigits 10 (s ++ x ∷ [])
digits_push [] x h d = (d, tt)
digits_push (y ∷ s) x h d = (h.0, digits_push s x h.1 d)

-- one digit more
pub digit_more : (s : List ℕ) (i value : ℕ) → i < length s → 48 ≤ get_or s i 0 → get_or s i 0 ≤ 57 → value ≡ digits_value 10 (take i s) → AllDigits 10 (take i s)
    → (value * 10 + (get_or s i 0 - 48) ≡ digits_value 10 (take (i + 1) s)) × AllDigits 10 (take (i + 1) s)
digit_more s i value inside low high e all =
    let x = get_or s i 0 in
    let digit : digit_value x + 48 ≡ x = digit_value_digit x (low, high) in
    let more = digits_value_more 10 s i inside in
    (omega (arith, more), subst (AllDigits 10) (sym (take_more s i 0 inside)) (digits_push (take i s) x all (omega arith)))

no_minus : (s : List ℕ) → 0 < length s → AllDigits 10 s → (slice_index s 0 == 45) ≡ false
no_minus [] h all = absurd (omega arith)
no_minus (x ∷ s) h all = ne_eqb x 45 (λ e. let small : digit_value 45 < 10 = subst (λ y. digit_value y < 10) e all.0 in omega arith)

pub digits_number : (s : List ℕ) (n : ℕ) → 0 < length s → AllDigits 10 s → n ≡ digits_value 10 s → n < 2 ^ 64 → number_of s ≡ Some (unsigned n)
unfolding number_of
digits_number s n some all e fits =
    let p : Parts = record { whole = s; point = false; fraction = []; exponent_negative = false; exponent = []; len = length s } in
    let well : IsWellFormed p = record { whole_digits = all; fraction_digits = tt; exponent_digits = tt; no_point = λ h. refl; no_exponent = λ h. refl; len_is = ap length (sym (append-nil s)) } in
    let scanned : scan s ≡ p = ap scan (sym (append-nil s)) ∙ scan-text_of p well in
    let value : digits_value 10 (s ++ []) ≡ n = ap (digits_value 10) (append-nil s) ∙ sym e in
    let m = digits_value 10 (s ++ []) in
    (λ i. if no_minus s some all i then number_from true (scan (drop 1 s)) else number_from false (scanned i))
    ∙ ap (λ b. if (b && true && true) && nat_lt m (2 ^ 64) then Some (unsigned m) else float_of false p) (lt-ltb 0 (length s) some)
    ∙ ap (λ k. if nat_lt k (2 ^ 64) then Some (unsigned k) else float_of false p) value
    ∙ ap (λ b. if b then Some (unsigned n) else float_of false p) (lt-ltb n (2 ^ 64) fits)
