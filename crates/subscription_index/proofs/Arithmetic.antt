-- Small facts of numbers, tests and conditionals that the standard library does not have.
use Rattle.std.proofs.Common.{◌≡◌, ℕ, Bool, true, false, cond, ◌||◌, eqb, refl, sym, ap, arith}
use Rattle.std.proofs.lemmas.Bool.Decides.{nat_tests}

pub eqb_comm : (a b : ℕ) → eqb a b ≡ eqb b a
eqb_comm a b = grind (arith, nat_tests)

pub or_left_comm : (a b c : Bool) → a || (b || c) ≡ b || (a || c)
or_left_comm true true c = refl
or_left_comm true false c = refl
or_left_comm false b c = refl

-- of two tests one holds at most: their order does not matter
pub cond_left_comm : {X : Type 0} (a b : Bool) (v w r : X) → (b ≡ true → a ≡ false) → cond b w (cond a v r) ≡ cond a v (cond b w r)
cond_left_comm a false v w r apart = refl
cond_left_comm a true v w r apart = sym (ap (λ x. cond x v w) (apart refl))
