use Rattle.std.proofs.Common.{◌≡◌, ◌||◌, drop}
use Rattle.wamp_ids.specs.Octets.{has_space}
use Rattle.wamp_ids.proofs.wide.any_ends_space.Given as goal

abbrev pub invariant-loop-octet : goal.invariant-loop-octet
invariant-loop-octet l = (l.found || has_space l.first l.before (drop l.octet-index l.octets)) ≡ has_space 0 0 l.octets
