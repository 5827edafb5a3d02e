-- Faults so far in the bits of a number, and the one character that is plain and a dot.
use Rattle.std.proofs.Common.{◌≡◌, ℕ, zero, suc, Bool, true, false, ◌&&◌, ◌||◌, eqb, bit_or, refl, sym, ap, ◌∙◌, arith}
use Rattle.std.proofs.lemmas.Bool.{ne_eqb, eqb-true}
use Rattle.std.proofs.lemmas.Nat.{le_or_l}
use Rattle.wamp_ids.specs.Uri.{is_plain}

pub or_is_zero : (a b : ℕ) → eqb (bit_or a b) 0 ≡ eqb a 0 && eqb b 0
or_is_zero zero b = refl
or_is_zero (suc a) b = ne_eqb (bit_or (suc a) b) 0 (λ e. omega (arith, le_or_l (suc a) b, e)) ∙ sym (ap (λ x. x && eqb b 0) (ne_eqb (suc a) 0 (λ e. omega (arith, e))))

pub dot_is_plain : (c : ℕ) → is_plain c ≡ eqb c 46 || is_plain c
dot_is_plain c =
    let P : Bool → Type 0 = λ d. eqb c 46 ≡ d → is_plain c ≡ d || is_plain c in
    (elim (eqb c 46) as P [ true ↦ (λ d. ap is_plain (eqb-true c 46 d)) | false ↦ (λ d. refl) ]) refl
