use Rattle.std.proofs.Common.{◌≡◌, ◌||◌, not, eqb, drop}
use Rattle.std.specs.List.{list_any}
use Rattle.wamp_ids.specs.Octets.{leads_space}
use Rattle.wamp_ids.proofs.wide.any_leads_space.Given as goal

abbrev pub invariant-loop-octet : goal.invariant-loop-octet
invariant-loop-octet l = (not (eqb l.found 0) || list_any leads_space (drop l.octet-index l.octets)) ≡ list_any leads_space l.octets
