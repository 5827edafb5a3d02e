-- Digits that are a word by themselves, and the number that they are.
use Rattle.std.proofs.Common.{◌≡◌, ℕ, ◌+◌, ◌-◌, ◌*◌, ◌^◌, ◌<◌, ◌≤◌, Bool, true, false, cond, ◌||◌, ◌==◌, List, ◌∷◌, length, take, drop, get_or, Some, refl, sym, ap, ◌∙◌, subst, arith}
use Rattle.std.proofs.lemmas.Bool.{false≢true, ne_eqb, leb-true, and_parts}
use Rattle.std.proofs.lemmas.List.{get_or-drop, length-drop, length-take}
use Rattle.std.specs.Char.{is_ascii_digit}
use Rattle.std.specs.List.{prefix_len}
use Rattle.std.specs.Str.Parse.{digits_value, AllDigits}
use Rattle.json.specs.Word.{is_operator, is_space, head, ends_word, after_digits, after_minus, after_sign, after_whole, after_fraction, after_exponent, after_number}
use Rattle.json.specs.Lex.{other, class}
use Rattle.json_to_msgpack.specs.body.Lexing.{IsPart, IsNaturalAt}
use Rattle.json_to_msgpack.proofs.Octets.{digit_class}
use Rattle.json_to_msgpack.proofs.WordParts.{part_here, part_as, digits_part, number_part, number_word}
use Rattle.json_to_msgpack.proofs.Naturals.{digit_more, digits_number}

abbrev ends : ℕ → Bool
ends x = is_operator x || is_space x

-- what ends a word is no point and no letter
no_end : (x y : ℕ) → ends x ≡ true → ends y ≡ false → (x == y) ≡ false
no_end x y e f = ne_eqb x y (λ h. false≢true (sym f ∙ sym (ap ends h) ∙ e))

natural_part : (t : List ℕ) (i e : ℕ) → IsPart t i (after_digits (drop i t)) e → (head (drop i t) == 45) ≡ false → (head (drop i t) == 48) ≡ false → ends_word (drop e t) ≡ true
    → IsPart t i (after_number (drop i t)) e
natural_part t i e digits minus nought over =
    let s = drop i t in
    let rest = drop e t in
    let x = head rest in
    let inside : i ≤ length t = omega (arith, digits.forward, digits.within) in
    number_part t i i e e e (part_here t i (Some (after_minus s)) inside (ap (λ b. Some (cond b (drop 1 s) s)) minus))
    (part_as t i e (after_digits s) (after_whole s) (ap (λ b. cond b (Some (drop 1 s)) (after_digits s)) nought) digits)
    (part_here t e (after_fraction rest) digits.within (ap (λ b. cond b (after_digits (drop 1 rest)) (Some rest)) (no_end x 46 over refl)))
    (part_here t e (after_exponent rest) digits.within (λ k. cond (no_end x 101 over refl k || no_end x 69 over refl k) (after_digits (after_sign (drop 1 rest))) (Some rest)))

pub natural_word : (t : List ℕ) (i e n first : ℕ) → drop i t ≡ first ∷ drop (i + 1) t → 49 ≤ first → first ≤ 57 → i < e → e ≤ length t → e ≡ i + prefix_len is_ascii_digit (drop i t)
    → n ≡ digits_value 10 (take (e - i) (drop i t)) → AllDigits 10 (take (e - i) (drop i t)) → n < 2 ^ 64 → IsNaturalAt t i n e
natural_word t i e n first begins low high forward within end value all fits =
    let s = take (e - i) (drop i t) in
    let x = head (drop i t) in
    let is : x ≡ first = ap head begins in
    let begun : class x ≡ other = digit_class x (omega arith) (omega arith) in
    let digits = digits_part t i e (omega arith) end (λ z. omega arith) in
    let no_minus = ne_eqb x 45 (λ z. omega arith) in
    let no_nought = ne_eqb x 48 (λ z. omega arith) in
    record {
      word = record {
        is = λ over. (number_word t i e s (natural_part t i e digits no_minus no_nought over) begun (omega arith) refl).is over;
        leaf = refl;
        begun = begun;
        passed = digits.passed;
        within = digits.within;
      };
      is = digits_number s n (omega (arith, length-take (e - i) (drop i t), length-drop i t)) all value fits;
    }

-- the first digit
pub digits_begun : (t : List ℕ) (i k first : ℕ) → drop i t ≡ first ∷ drop (i + 1) t → 49 ≤ first → first ≤ 57 → 1 ≡ k
    → (first - 48 ≡ digits_value 10 (take k (drop i t))) × AllDigits 10 (take k (drop i t))
digits_begun t i k first begins low high one =
    let s = drop i t in
    let is : get_or s 0 0 ≡ first = ap (λ l. get_or l 0 0) begins in
    let step = digit_more s 0 0 (omega (arith, ap length begins)) (omega arith) (omega arith) refl tt in
    subst (λ j. (first - 48 ≡ digits_value 10 (take j s)) × AllDigits 10 (take j s)) one (omega (arith, step.0, is), step.1)

-- one digit more
pub digits_further : (t : List ℕ) (i at value : ℕ) → i < at → at < length t → is_ascii_digit (get_or t at 0) ≡ true
    → value ≡ digits_value 10 (take (at - i) (drop i t)) → AllDigits 10 (take (at - i) (drop i t))
    → (value * 10 + (get_or t at 0 - 48) ≡ digits_value 10 (take (at + 1 - i) (drop i t))) × AllDigits 10 (take (at + 1 - i) (drop i t))
digits_further t i at value forward inside digit e all =
    let s = drop i t in
    let k = at - i in
    let x = get_or t at 0 in
    let there : i + k ≡ at = omega arith in
    let is : get_or s k 0 ≡ x = get_or-drop i t k 0 ∙ ap (λ j. get_or t j 0) there in
    let parts = and_parts _ _ digit in
    let low = leb-true 48 x parts.0 in
    let high = leb-true x 57 parts.1 in
    let step = digit_more s k value (omega (arith, length-drop i t)) (omega arith) (omega arith) e all in
    let next : k + 1 ≡ at + 1 - i = omega arith in
    subst (λ j. (value * 10 + (x - 48) ≡ digits_value 10 (take j s)) × AllDigits 10 (take j s)) next (omega (arith, step.0, is), step.1)
