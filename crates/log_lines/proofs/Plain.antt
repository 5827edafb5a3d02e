-- What stands between quotes is plain.
use Rattle.std.proofs.Common.{◌≡◌, ◌<◌, ◌+◌, ◌/◌, ◌%◌, ℕ, Bool, true, false, cond, ◌&&◌, List, [], ◌∷◌, ◌++◌, refl, arith}
use Rattle.std.specs.Prelude.{nat_le, not, ◌==◌}
use Rattle.std.proofs.lemmas.Bool.Decides.{nat_tests}
use Rattle.log_lines.specs.Values.{are_plain, hex_digit, is_plain, shown, spelt}

hex_plain : (n : ℕ) → n < 16 → is_plain (hex_digit n) ≡ true
hex_plain n small = at (nat_le n 9) refl
  where
    at : (b : Bool) → nat_le n 9 ≡ b → is_plain (cond b (48 + n) (87 + n)) ≡ true
    at true is = grind (arith, nat_tests)
    at false is = grind (arith, nat_tests)

spelt_plain : (c : ℕ) → are_plain (spelt c) ≡ true
spelt_plain c = at (nat_le 32 c && nat_le c 126 && not (c == 34) && not (c == 92)) refl
  where
    at : (b : Bool) → nat_le 32 c && nat_le c 126 && not (c == 34) && not (c == 92) ≡ b → are_plain (cond b (c ∷ []) (92 ∷ 120 ∷ hex_digit (c / 16 % 16) ∷ hex_digit (c % 16) ∷ [])) ≡ true
    at true is = grind (arith, nat_tests)
    at false is = let high = hex_plain (c / 16 % 16) (omega arith) in let low = hex_plain (c % 16) (omega arith) in rw (high, low) refl

plain-append : (a b : List ℕ) → are_plain a ≡ true → are_plain b ≡ true → are_plain (a ++ b) ≡ true
plain-append [] b first second = second
plain-append (c ∷ a) b first second = at (is_plain c) (λ rest. plain-append a b rest second) first
  where
    at : (t : Bool) → (are_plain a ≡ true → are_plain (a ++ b) ≡ true) → t && are_plain a ≡ true → t && are_plain (a ++ b) ≡ true
    at true later is = later is
    at false later is = is

pub shown_plain : (text : List ℕ) → are_plain (shown text) ≡ true
shown_plain [] = refl
shown_plain (c ∷ cs) = plain-append (spelt c) (shown cs) (spelt_plain c) (shown_plain cs)
