use Rattle.std.proofs.Common.{sym, ap, ◌∙◌, refl}
use Rattle.ghost_state.specs.GhostList.{items_of}
use Rattle.threaded_server.proofs.Numbering.{over_numbered}
use Rattle.threaded_server.proofs.SeatSteps.{more_lent}
use Rattle.threaded_server.proofs.StoppingLemmas.{over_covers}
use Rattle.threaded_server.proofs.TableStanding.{untouched_standing}
use Rattle.threaded_server.proofs.TableSteps.{untouched_adds}
use Rattle.threaded_server.specs.Posters.{lists_of}
use Rattle.threaded_server.specs.Realms.{realms_of}
use Rattle.threaded_server.specs.Stopping.{doors_of}
use Rattle.threaded_server.specs.declared.over.Over.TheVariants.{Untouched}
use Rattle.threaded_server.proofs.connection_table.ConnectionTable.let_go.Goals as goal

pub returns-clause-over : goal.returns-clause-over
returns-clause-over g c =
    untouched_adds (items_of c.args.self.now.roster.over.streams) (items_of c.let_go.new.self.over.streams) c.args.halves c.let_go.result.source.last.value c.let_go.result.sink.last.value c.let_go.result.fate c.let_go.ensures.over c.let_go.ensures.source c.let_go.ensures.sink c.let_go.ensures.fate

pub invariant_of-self : goal.invariant_of-self
invariant_of-self g c =
    let table = c.args.self.now in
    let same = ap (λ v. v.items) c.let_go.ensures.entries in
    let s = untouched_standing table.roster.over.plan c.let_go.new.self.over.plan (realms_of table.realms) (lists_of table.posters) table.roster.entries.items c.let_go.new.self.entries.items (items_of table.roster.over.streams) (items_of c.let_go.new.self.over.streams) c.args.halves
    c.let_go.ensures.plan same c.let_go.ensures.over (record { free = table.free; served = table.served; say = table.say; kept = table.kept; began = table.began }) in
    record {
      same = table.same ∙ ap (λ p. p.value) (sym c.let_go.ensures.plan);
      free = s.free;
      served = s.served;
      say = s.say;
      numbered = over_numbered table.seats table.roster.entries.items c.let_go.new.self.entries.items (items_of table.roster.over.streams) (items_of c.let_go.new.self.over.streams) (Untouched c.let_go.ensures.over.shown) same c.let_go.ensures.over.added refl table.numbered;
      seated = more_lent table.seats table.roster.entries.items c.let_go.new.self.entries.items (items_of table.roster.lent) (items_of c.let_go.new.self.lent) c.args.halves same c.let_go.ensures.lent table.seated;
      kept = s.kept;
      in_order = table.in_order;
      shown = over_covers (items_of table.roster.over.streams) (items_of c.let_go.new.self.over.streams) (Untouched c.let_go.ensures.over.shown) (doors_of table.doors) c.let_go.ensures.over.added (λ realm number. refl) table.shown;
      began = s.began;
    }
