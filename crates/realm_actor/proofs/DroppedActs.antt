-- An act was dropped.
use Rattle.std.proofs.Common.{◌≡◌, ap, Bool, true, false, not}
use Rattle.realm_actor.specs.declared.outcome.Outcome.{Outcome}
use Rattle.realm_actor.specs.declared.outcome.Outcome.TheVariants.{Applied, Dropped, NoMemory}
use Rattle.realm_actor.specs.Handle.{MatchOutcome}

pub dropped_by : (r : Outcome) (A B same : Type 0) (b : Bool) → MatchOutcome r A (same × (b ≡ false)) B → MatchOutcome r A (same × (not b ≡ true)) B
dropped_by Applied A B same b m = m
dropped_by Dropped A B same b m = (m.0, ap not m.1)
dropped_by NoMemory A B same b m = m
