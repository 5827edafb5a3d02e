use Rattle.std.proofs.Common.{◌≡◌, take}
use Rattle.std.specs.List.{filter}
use Rattle.wamp_ids.specs.Pattern.{matches}
use Rattle.retained.proofs.store.Store.matching.Given as goal

abbrev pub invariant-loop-kept : goal.invariant-loop-kept
invariant-loop-kept l = l.found.items ≡ filter (λ p. matches l.pattern p.topic) (take l.kept-index l.kept-items)
