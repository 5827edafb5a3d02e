-- Octets as they are shown.
use Rattle.std.proofs.Common.{◌≤◌, ◌*◌, ◌/◌, ◌%◌, ℕ, Bool, true, false, cond, List, [], ◌∷◌, ◌++◌, length, arith, length-append}
use Rattle.std.specs.Prelude.{nat_le, ◌&&◌}
use Rattle.std.proofs.lemmas.List.{length-take}
use Rattle.command_line.specs.Reasons.{dots, first, hex_digit, shown, shown_line, shown_octet}

octet-bounded : (c : ℕ) → length (shown_octet c) ≤ 4
octet-bounded c = elim (nat_le 32 c && nat_le c 126) as (λ b. length (cond b (c ∷ []) (92 ∷ 120 ∷ hex_digit (c / 16) ∷ hex_digit (c % 16) ∷ [])) ≤ 4) [
  | true ↦ omega arith
  | false ↦ omega arith
]

-- an octet is shown by four at most
shown-bounded : (octets : List ℕ) → length (shown octets) ≤ 4 * length octets
shown-bounded [] = omega arith
shown-bounded (c ∷ cs) = omega (arith, length-append (shown_octet c) (shown cs), octet-bounded c, shown-bounded cs)

first-bounded : (text : List ℕ) → length (first text) ≤ 1000
unfolding first
first-bounded text = omega (arith, length-take 1000 text)

two : Bool → List ℕ
two b = cond b [] (46 ∷ 46 ∷ [])

two-bounded : (b : Bool) → length (two b) ≤ 2
unfolding two
two-bounded true = omega arith
two-bounded false = omega arith

dots-bounded : (text : List ℕ) → length (dots text) ≤ 2
unfolding two
dots-bounded text = two-bounded (nat_le (length text) 1000)

-- a line is at most 4,003 octets long: 1,000 octets as they are shown, two dots and LF
pub shown_line-bounded : (text : List ℕ) → length (shown_line text) ≤ 4003
shown_line-bounded text =
    omega (arith, shown-bounded (first text), first-bounded text, dots-bounded text, length-append (shown (first text)) (dots text ++ 10 ∷ []), length-append (dots text) (10 ∷ []))
