use Rattle.std.proofs.Common.{◌+◌, ◌-◌, ◌≡◌, ◌≤◌, ◌<◌, ℕ}
use Rattle.rawsocket.specs.Bounds.{most_octets}
use Rattle.rawsocket.proofs.message_bound.MessageBound.of_octets.Given as goal

abbrev pub invariant-loop-number : goal.invariant-loop-number
invariant-loop-number l = record {
  within : l.number ≤ 12;
  passed : (n : ℕ) → n < l.number → most_octets n ≡ l.octets → ⊥;
}

-- proposed from the loop's first test
abbrev pub decreases-loop-number : goal.decreases-loop-number
decreases-loop-number l = 12 - l.number
