use Rattle.std.proofs.Math.Logic.{∥∥₁_map₂}
use Rattle.ghost_state.specs.GhostList.{items_of}
use Rattle.threaded_server.proofs.RosterSteps.{all_over}
use Rattle.threaded_server.proofs.roster.Roster.shows_all_over.Goals as goal

pub returns : goal.returns
returns g c = ∥∥₁_map₂ (all_over (items_of c.args.self.now.lent) (items_of c.args.self.now.over.streams) c.args.self.now.entries.items c.requires c.args.self.now.balance) c.args.self.now.found (λ each found. record { each = each; went = c.shows.ensures; found = found })
