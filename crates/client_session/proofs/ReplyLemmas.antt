-- What four octets reply to a handshake.
use Rattle.std.proofs.Common.{◌≡◌, ◌*◌, ◌/◌, ◌%◌, ℕ, List, [], ◌∷◌, length, get_or, ap, arith}
use Rattle.rawsocket.specs.Handshakes.{refusing}

-- a refusal by the octets that it has
pub refusal_is : (xs : List ℕ) → length xs ≡ 4 → get_or xs 0 0 ≡ 127 → get_or xs 1 0 % 16 ≡ 0 → get_or xs 2 0 ≡ 0 → get_or xs 3 0 ≡ 0 → xs ≡ refusing (get_or xs 1 0 / 16)
refusal_is [] four a b c d = absurd (omega (arith, four))
refusal_is (w ∷ []) four a b c d = absurd (omega (arith, four))
refusal_is (w ∷ x ∷ []) four a b c d = absurd (omega (arith, four))
refusal_is (w ∷ x ∷ y ∷ []) four a b c d = absurd (omega (arith, four))
refusal_is (w ∷ x ∷ y ∷ z ∷ []) four a b c d =
    let whole : x ≡ x / 16 * 16 = omega (arith, b) in
    cc (a, whole, c, d)
refusal_is (w ∷ x ∷ y ∷ z ∷ v ∷ more) four a b c d = absurd (omega (arith, four))

-- each refusal has them
pub refusal_first : (xs : List ℕ) (code : ℕ) → xs ≡ refusing code → get_or xs 0 0 ≡ 127
refusal_first xs code e = ap (λ x. get_or x 0 0) e

pub refusal_second : (xs : List ℕ) (code : ℕ) → xs ≡ refusing code → get_or xs 1 0 % 16 ≡ 0
refusal_second xs code e =
    let second : get_or xs 1 0 ≡ code * 16 = ap (λ x. get_or x 1 0) e in omega (arith, second)

pub refusal_third : (xs : List ℕ) (code : ℕ) → xs ≡ refusing code → get_or xs 2 0 ≡ 0
refusal_third xs code e = ap (λ x. get_or x 2 0) e

pub refusal_fourth : (xs : List ℕ) (code : ℕ) → xs ≡ refusing code → get_or xs 3 0 ≡ 0
refusal_fourth xs code e = ap (λ x. get_or x 3 0) e
