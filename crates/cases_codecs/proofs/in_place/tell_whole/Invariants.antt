use Rattle.std.proofs.Common.{◌≡◌, [], length}
use Rattle.cases_codecs.proofs.in_place.tell_whole.Given as goal

abbrev pub invariant-loop-kind : goal.invariant-loop-kind
invariant-loop-kind l = l.fn.octets ≡ [] → l.rest ≡ []

abbrev pub decreases-loop-kind : goal.decreases-loop-kind
decreases-loop-kind l = length l.rest
