use Rattle.std.proofs.Common.{map}
use Rattle.std.proofs.Math.Logic.{∥∥₁_map}
use Rattle.ghost_state.specs.GhostList.{items_of}
use Rattle.threaded_server.proofs.Finding.{passed_found}
use Rattle.threaded_server.proofs.RosterSteps.{pass_balances, still_of_plan}
use Rattle.threaded_server.specs.Roster.{halves_of}
use Rattle.threaded_server.specs.Slots.{in_slots}
use Rattle.threaded_server.proofs.roster.Roster.pass.Goals as goal

pub invariant_of-self : goal.invariant_of-self
invariant_of-self g c =
    let roster = c.args.self.now in
    record {
      own = still_of_plan roster.over.plan c.add-2.new.self.plan roster.entries.items c.add-2.ensures.plan roster.own;
      balance = pass_balances (items_of roster.lent) (items_of c.add.new.self) (items_of roster.over.streams) (items_of c.add-2.new.self.streams) (map halves_of (in_slots roster.entries.items)) c.args.halves.value c.args.over.value
          c.add.ensures c.add-2.ensures.streams c.requires.halves roster.balance;
      found = ∥∥₁_map roster.found (passed_found (items_of roster.lent) (items_of c.add.new.self) c.args.halves.value (items_of roster.over.streams) (items_of c.add-2.new.self.streams) c.args.over.value c.add.ensures c.add-2.ensures.streams c.requires.found);
    }
