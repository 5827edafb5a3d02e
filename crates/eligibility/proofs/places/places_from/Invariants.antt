use Rattle.std.proofs.Common.{◌-◌}
use Rattle.eligibility.proofs.Walking.{ReadSoFar}
use Rattle.eligibility.proofs.places.places_from.Given as goal

abbrev pub invariant-loop : goal.invariant-loop
invariant-loop l = ReadSoFar l.octets l.members l.rest l.count (l.count - l.counter) l.places.items
