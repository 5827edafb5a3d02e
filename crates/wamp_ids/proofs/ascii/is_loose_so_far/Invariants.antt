use Rattle.std.proofs.Common.{◌≡◌, ◌&&◌, ◌||◌, false, eqb, drop}
use Rattle.std.specs.List.{list_any}
use Rattle.wamp_ids.specs.Octets.{passes}
use Rattle.wamp_ids.proofs.WideScan.{is_wide}
use Rattle.wamp_ids.proofs.ascii.is_loose_so_far.Given as goal

abbrev pub invariant-loop-octet : goal.invariant-loop-octet
invariant-loop-octet l =
    ((l.wide || list_any is_wide (drop l.octet-index l.octets)) ≡ list_any is_wide l.octets)
    × ((eqb l.faults 0 && passes false 0 (drop l.octet-index l.octets)) ≡ passes false 0 l.octets)
