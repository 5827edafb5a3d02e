use Rattle.std.proofs.Common.{◌≡◌, ℕ, ◌<◌, false, get_or}
use Rattle.wamp_ids.proofs.components.has_dot.Given as goal

abbrev pub invariant-loop-octet : goal.invariant-loop-octet
invariant-loop-octet l = l.found ≡ false → (i : ℕ) → i < l.octet-index → get_or l.octets i 0 ≡ 46 → ⊥
