use Rattle.std.proofs.Common.{length, sym, ap, ◌∙◌, subst}
use Rattle.ghost_state.specs.GhostList.{items_of}
use Rattle.threaded_server.proofs.Finding.{turned_found}
use Rattle.threaded_server.proofs.Numbering.{over_numbered}
use Rattle.threaded_server.proofs.SeatSteps.{all_taken, balance_counts, more_lent}
use Rattle.threaded_server.proofs.StoppingLemmas.{over_covers}
use Rattle.threaded_server.proofs.TableStanding.{over_standing}
use Rattle.threaded_server.proofs.TableSteps.{turned_adds}
use Rattle.threaded_server.specs.Conns.{conn_of}
use Rattle.threaded_server.specs.Overs.{before_of}
use Rattle.threaded_server.specs.Posters.{lists_of}
use Rattle.threaded_server.specs.Posts.{posts_of}
use Rattle.threaded_server.specs.Realms.{realms_of}
use Rattle.threaded_server.specs.Roster.{halves_of}
use Rattle.threaded_server.specs.Slots.{in_slots}
use Rattle.threaded_server.specs.Stopping.{doors_of}
use Rattle.threaded_server.specs.Ties.{OverKept}
use Rattle.threaded_server.proofs.connection_table.ConnectionTable.turn_away.Goals as goal

pub pass-requires-clause-found : goal.pass-requires-clause-found
pass-requires-clause-found g c κs within =
    let table = c.args.self.now in
    let lent = items_of table.roster.lent in
    let overs = items_of table.roster.over.streams in
    let slots = table.roster.entries.items in
    let count = balance_counts before_of halves_of lent overs (in_slots slots) table.roster.balance in
    turned_found lent c.of-lent.result.value (length overs) c.of-3.result.value c.of-before.result c.of.result c.of-2.result c.of-3.ensures (c.of-before.ensures ∙ sym c.of-lent.ensures) (all_taken table.seats slots lent (length overs) c.requires.full count table.seated)

pub returns-clause-over : goal.returns-clause-over
returns-clause-over g c =
    turned_adds (items_of c.args.self.now.roster.over.streams) (items_of c.pass.new.self.over.streams) c.of-before.result c.of.result c.of-2.result c.of-3.result.value c.args.parts.source c.of-4.result.last.value
    c.tell_no_seat.new.sink c.of-5.result.last.value c.pass.ensures.over c.of-3.ensures c.of.ensures c.of-2.ensures c.of-4.ensures c.of-5.ensures

pub invariant_of-self : goal.invariant_of-self
invariant_of-self g c =
    let table = c.args.self.now in
    let s = over_standing table.roster.over.plan c.pass.new.self.over.plan (realms_of table.realms) (lists_of table.posters) table.roster.entries.items c.pass.new.self.entries.items (items_of table.roster.over.streams) (items_of c.pass.new.self.over.streams) c.of-3.result.value
    c.pass.ensures.plan (ap (λ v. v.items) c.pass.ensures.entries) c.pass.ensures.over (subst (λ o. OverKept (realms_of table.realms) o) (sym c.of-3.ensures) tt) (λ realm number. ap (posts_of realm number) c.of-3.ensures) (record { free = table.free; served = table.served; say = table.say; kept = table.kept; began = table.began }) in
    record { same = table.same ∙ ap (λ p. p.value) (sym c.pass.ensures.plan); free = s.free; served = s.served; say = s.say; numbered = over_numbered table.seats table.roster.entries.items c.pass.new.self.entries.items (items_of table.roster.over.streams) (items_of c.pass.new.self.over.streams) c.of-3.result.value (ap (λ v. v.items) c.pass.ensures.entries) c.pass.ensures.over (ap conn_of c.of-3.ensures) table.numbered; seated = more_lent table.seats table.roster.entries.items c.pass.new.self.entries.items (items_of table.roster.lent) (items_of c.pass.new.self.lent) c.of-lent.result.value (ap (λ v. v.items) c.pass.ensures.entries) c.pass.ensures.lent table.seated; kept = s.kept; in_order = table.in_order; shown = over_covers (items_of table.roster.over.streams) (items_of c.pass.new.self.over.streams) c.of-3.result.value (doors_of table.doors) c.pass.ensures.over (λ realm number. ap (posts_of realm number) c.of-3.ensures) table.shown; began = s.began }
