-- Which number stands at which place.
use Rattle.std.proofs.Common.{◌≡◌, ℕ, zero, suc, ◌+◌, ◌<◌, ◌≤◌, List, [], ◌∷◌, ◌++◌, append-nil, length, length-append, refl, sym, subst, ap, ◌∙◌, arith, Option, None, Some}
use Rattle.std.specs.Prelude.{⊤, slice_get}
use mathlib.Core.List.{IsPrefix}
use Rattle.outbox_queue.specs.Ends.{Owes, Vouches}
use Rattle.outbox_queue.specs.Rule.{Grows}
use Rattle.cases_outbox.specs.Counting.{Same, counted, owed}
use Rattle.cases_outbox.specs.declared.numbers.Numbers.{Numbers}

pub counted-at : (first count place : ℕ) → place < count → slice_get (counted first count) place ≡ Some (first + place)
counted-at first zero place below = absurd (let bad : ⊥ = omega arith in bad)
counted-at first (suc count) zero below = ap Some (omega arith)
counted-at first (suc count) (suc place) below = counted-at (suc first) count place (omega arith) ∙ ap Some (omega arith)

counted-length : (first count : ℕ) → length (counted first count) ≡ count
counted-length first zero = refl
counted-length first (suc count) = ap suc (counted-length (suc first) count)

nothing-more : (xs rest : List ℕ) (count : ℕ) → count ≤ length xs → length (xs ++ rest) ≡ count → xs ++ rest ≡ xs
nothing-more xs [] count all is = append-nil xs
nothing-more xs (y ∷ rest) count all is = let long = length-append xs (y ∷ rest) in absurd (omega (arith, all, is, long))

-- where as many were added as are owed, all of them were
pub all-added : (n : Numbers) (history : Option Numbers) (conn : ℕ) (xs : List ℕ) → Grows Same history (Some n) → Owes owed history conn xs → n.count ≤ length xs → xs ≡ counted n.first n.count
all-added n None conn xs grows none all = none ∙ ap (counted n.first) (let no : n.count ≤ 0 = subst (λ (l : List ℕ). n.count ≤ length l) none all in let zero_is : 0 ≡ n.count = omega (arith, no) in zero_is)
all-added n (Some h) conn xs same begins all =
    let p : IsPrefix xs (counted n.first n.count) = subst (λ (k : Numbers). IsPrefix xs (counted k.first k.count)) same begins in
    sym (nothing-more xs p.0 n.count all (ap length p.1 ∙ counted-length n.first n.count)) ∙ p.1

pub vouched : (n : Numbers) (history : Option Numbers) (conn : ℕ) (xs : List ℕ) (finds : ℕ) → Grows Same history (Some n) → Owes owed history conn xs → n.count ≤ length xs → Vouches owed (λ _ _. ⊤) (λ h _. h.is_cut) n conn xs finds n.is_cut
vouched n history conn xs finds grows owes all =
    let is = all-added n history conn xs grows owes all in
    record { over = tt; begins = ([], append-nil xs ∙ is); whole = λ _. is; uncut = λ _ same. same; lost = λ same. same }
