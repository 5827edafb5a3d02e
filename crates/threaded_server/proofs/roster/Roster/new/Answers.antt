use Rattle.ghost_state.specs.GhostList.{items_of}
use Rattle.threaded_server.proofs.Finding.{none_found}
use Rattle.threaded_server.proofs.RosterSteps.{none_of_plan, none_yet}
use Rattle.threaded_server.proofs.roster.Roster.new.Goals as goal

pub invariant_of-result : goal.invariant_of-result
invariant_of-result g c = record {
  own = none_of_plan c.new-2.result.plan c.in_ok-no_entries.field-0.items c.in_ok-no_entries.ensures.none;
  balance = none_yet (items_of c.new.result) (items_of c.new-2.result.streams) c.in_ok-no_entries.field-0.items c.new.ensures c.new-2.ensures.streams c.in_ok-no_entries.ensures.none;
  found = ∣ none_found (items_of c.new.result) (items_of c.new-2.result.streams) c.new-2.ensures.streams ∣₁;
}
