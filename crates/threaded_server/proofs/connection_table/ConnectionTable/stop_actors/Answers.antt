use Rattle.std.proofs.Common.{sym, ◌∙◌}
use Rattle.std.proofs.Math.Logic.{∥∥₁_map}
use Rattle.ghost_state.specs.GhostList.{items_of}
use Rattle.threaded_server.proofs.DoorSteps.{may_inboxes}
use Rattle.threaded_server.proofs.StoppingLemmas.{still_cover, stops_cover}
use Rattle.threaded_server.specs.Stopping.{doors_of}
use Rattle.threaded_server.proofs.connection_table.ConnectionTable.stop_actors.Goals as goal

pub invariant_of-self : goal.invariant_of-self
invariant_of-self g c =
    let table = c.args.self.now in
    let before = doors_of table.doors in
    let now = doors_of c.stop.new.self in
    record { same = table.same; free = table.free; served = table.served; say = table.say; numbered = table.numbered; seated = table.seated; kept = table.kept; in_order = table.in_order ∙ sym (may_inboxes before now c.stop.ensures); shown = ∥∥₁_map table.shown (still_cover (items_of table.roster.over.streams) before now c.stop.ensures); began = table.began }

pub returns-clause-stops : goal.returns-clause-stops
returns-clause-stops g c none =
    let table = c.args.self.now in
    ∥∥₁_map table.shown (λ cover. stops_cover (items_of table.roster.over.streams) (doors_of table.doors) (doors_of c.stop.new.self) c.stop.ensures cover none)
