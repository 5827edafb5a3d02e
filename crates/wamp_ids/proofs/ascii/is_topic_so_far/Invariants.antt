use Rattle.std.proofs.Common.{◌≡◌, ◌&&◌, ◌||◌, true, eqb, drop}
use Rattle.std.specs.List.{list_any}
use Rattle.wamp_ids.specs.Octets.{passes}
use Rattle.wamp_ids.proofs.WideScan.{is_wide}
use Rattle.wamp_ids.proofs.ascii.is_topic_so_far.Given as goal

abbrev pub invariant-loop-octet : goal.invariant-loop-octet
invariant-loop-octet l =
    ((l.wide || list_any is_wide (drop l.octet-index l.octets)) ≡ list_any is_wide l.octets)
    × ((eqb l.faults 0 && passes true l.before (drop l.octet-index l.octets)) ≡ passes true 46 l.octets)
