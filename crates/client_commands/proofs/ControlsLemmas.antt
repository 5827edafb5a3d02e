-- Texts without the controls that are escaped.
use Rattle.std.proofs.Common.{◌≡◌, ◌∙◌, ◌++◌, ◌==◌, ℕ, suc, Bool, true, false, List, [], ◌∷◌, length, ap, arith, refl, if◌then◌else◌}
use Rattle.std.specs.Prelude.{◌||◌}
use Rattle.memchr.specs.Find.{Nowhere, Passes, is_byte2}
use Rattle.client_commands.specs.Controls.{escape_of, shown, shown_behind}

unless : (c : ℕ) (more : List ℕ) (a b : Bool) → ¬ ((a || b) ≡ true) → (if a then escape_of c ++ shown more else if b then shown_behind more else c ∷ shown more) ≡ c ∷ shown more
unless c more true b clean = absurd (clean refl)
unless c more false true clean = absurd (clean refl)
unless c more false false clean = refl

pub clean-shown : (octets : List ℕ) → Nowhere (Passes (is_byte2 127 194) octets) 0 (length octets) → shown octets ≡ octets
clean-shown [] none = refl
clean-shown (c ∷ more) none =
    unless c more (c == 127) (c == 194) (none 0 (omega arith) (omega arith))
    ∙ ap (λ xs. c ∷ xs) (clean-shown more (λ k low high. none (suc k) (omega arith) (omega (arith, high))))
