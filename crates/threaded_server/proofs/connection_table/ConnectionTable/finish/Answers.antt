use Rattle.std.proofs.Common.{length, sym}
use Rattle.std.proofs.Math.Logic.{∥∥₁_elim, ∥∥₁_map}
use Rattle.ghost_state.specs.GhostList.{items_of}
use Rattle.threaded_server.specs.Histories.{start_of}
use Rattle.threaded_server.proofs.RunSteps.{all_ran, all_tied, nobody_there, ran_long, received_posted}
use Rattle.threaded_server.proofs.StoppingLemmas.{early_handled}
use Rattle.threaded_server.specs.Stopping.{doors_of}
use Rattle.threaded_server.specs.Posters.{lists_at, lists_of}
use Rattle.threaded_server.specs.Realms.{realms_of}
use Rattle.threaded_server.proofs.connection_table.ConnectionTable.finish.Goals as goal

pub join-requires-clause-posters : goal.join-requires-clause-posters
join-requires-clause-posters g c κs within = c.args.self.free

pub join-requires-clause-doors : goal.join-requires-clause-doors
join-requires-clause-doors g c κs within = c.args.self.in_order

pub returns-clause-runs : goal.returns-clause-runs
returns-clause-runs g c = all_ran (start_of c.args.self.roster.over.plan.value.config.value) (realms_of c.args.self.realms) (items_of c.join.result) c.join.ensures.runs c.args.self.began

pub returns-clause-realms : goal.returns-clause-realms
returns-clause-realms g c = sym (ran_long (realms_of c.args.self.realms) (items_of c.join.result) c.join.ensures.runs)

pub returns-clause-received : goal.returns-clause-received
returns-clause-received g c =
    let table = c.args.self in
    ∥∥₁_map table.say (received_posted (length table.roster.over.plan.value.realms.items) (realms_of table.realms) (items_of c.join.result) (lists_of table.posters) (lists_at table.roster.entries.items) (items_of table.roster.over.streams) c.join.ensures.runs c.join.ensures.received
    (nobody_there table.roster.entries.items c.requires))

pub returns-clause-handled : goal.returns-clause-handled
returns-clause-handled g c =
    let table = c.args.self in
    let runs = items_of c.join.result in
    let overs = items_of table.roster.over.streams in
    let start = start_of table.roster.over.plan.value.config.value in
    let ran = all_ran start (realms_of table.realms) runs c.join.ensures.runs table.began in
    ∥∥₁_elim table.shown squash₁ (λ cover. ∥∥₁_map table.say (λ say. early_handled start (realms_of table.realms) runs overs (doors_of table.doors) c.join.ensures.runs ran c.join.ensures.doors cover
    (received_posted (length table.roster.over.plan.value.realms.items) (realms_of table.realms) runs (lists_of table.posters) (lists_at table.roster.entries.items) overs c.join.ensures.runs c.join.ensures.received (nobody_there table.roster.entries.items c.requires) say)))

pub returns-clause-ascend : goal.returns-clause-ascend
returns-clause-ascend g c = c.args.self.numbered.ascend

pub returns-clause-tied : goal.returns-clause-tied
returns-clause-tied g c = ∥∥₁_map c.args.self.kept (all_tied (realms_of c.args.self.realms) (items_of c.join.result) (items_of c.args.self.roster.over.streams) c.join.ensures.runs)

pub returns-clause-went : goal.returns-clause-went
returns-clause-went g c = c.shows_all_over.ensures
