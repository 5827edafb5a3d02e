-- Histories of numbers.
use Rattle.std.specs.Prelude.{◌≡◌, ℕ, zero, suc, List, [], ◌∷◌}
use Rattle.std.proofs.Common.{append-nil, subst}
use mathlib.Core.List.{IsPrefix}
use Rattle.cases_outbox.specs.declared.numbers.Numbers.{Numbers}

-- so many numbers, one after another, from this one
abbrev pub counted : ℕ → ℕ → List ℕ
counted first zero = []
counted first (suc count) = first ∷ counted (suc first) count

-- all its numbers, to each connection
abbrev pub owed : Numbers → ℕ → List ℕ
owed h conn = counted h.first h.count

-- a history begins itself alone
abbrev pub Same : Numbers → Numbers → Type 0
Same h k = h ≡ k

abbrev pub owes_on : (h k : Numbers) (conn : ℕ) → Same h k → IsPrefix (owed h conn) (owed k conn)
owes_on h k conn e = subst (λ l. IsPrefix (owed h conn) (owed l conn)) e ([], append-nil (owed h conn))
