use Rattle.std.proofs.Common.{rules, ◌<◌, length, None}
use Rattle.std.proofs.Math.Logic.{∥∥₁_map}
use Rattle.std.proofs.lemmas.Option.{slice_get_within}
use Rattle.ghost_state.specs.GhostList.{items_of}
use Rattle.threaded_server.proofs.Finding.{lent_found}
use Rattle.threaded_server.proofs.RosterSteps.{seat_balances, seated_of_plan}
use Rattle.threaded_server.proofs.roster.Roster.seat.Goals as goal

pub index_mut-requires : goal.index_mut-requires
index_mut-requires g c = let within : c.args.place < length c.args.self.now.entries.items = slice_get_within c.args.self.now.entries.items c.args.place None c.requires.free in search rules

pub invariant_of-self : goal.invariant_of-self
invariant_of-self g c =
    let roster = c.args.self.now in
    record {
      own = seated_of_plan roster.over.plan roster.entries.items c.args.place c.args.entry c.requires.plan roster.own;
      balance = seat_balances (items_of roster.lent) (items_of c.add.new.self) (items_of roster.over.streams) roster.entries.items c.args.place c.args.entry c.args.halves.value c.add.ensures c.requires.halves c.requires.free roster.balance;
      found = ∥∥₁_map roster.found (lent_found (items_of roster.lent) (items_of c.add.new.self) c.args.halves.value (items_of roster.over.streams) c.add.ensures);
    }
