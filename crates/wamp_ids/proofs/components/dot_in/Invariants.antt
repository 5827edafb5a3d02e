use Rattle.std.proofs.Common.{◌≡◌, ℕ, ◌<◌, get_or}
use Rattle.wamp_ids.proofs.ComponentWalk.{so_far}
use Rattle.wamp_ids.proofs.components.dot_in.Given as goal

abbrev pub invariant-loop-i : goal.invariant-loop-i
invariant-loop-i l = so_far l.text l.i × ((k : ℕ) → k < l.i → get_or l.text k 0 ≡ 46 → ⊥)

abbrev pub invariant-loop-i-2 : goal.invariant-loop-i-2
invariant-loop-i-2 l = so_far l.text l.i
