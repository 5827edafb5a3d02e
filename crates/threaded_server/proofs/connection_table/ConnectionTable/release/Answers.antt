use Rattle.std.proofs.Common.{refl, sym, ap, ◌∙◌}
use Rattle.ghost_state.specs.GhostList.{items_of}
use Rattle.threaded_server.proofs.Numbering.{back_numbered, left_numbered, still_numbered}
use Rattle.threaded_server.proofs.RealmSteps.{takes_long}
use Rattle.threaded_server.proofs.SeatSteps.{seat_left, still_seated}
use Rattle.threaded_server.proofs.StoppingLemmas.{doors_after, same_cover}
use Rattle.threaded_server.proofs.TableStanding.{Standing, entry_stood, left_shown, left_standing, nobody_left, reader_doors, reader_left}
use Rattle.threaded_server.proofs.TableSteps.{seated_adds}
use Rattle.broker_threads.specs.Courses.{seen_of}
use Rattle.threaded_server.specs.Posters.{PutsBack, lists_of, traces}
use Rattle.threaded_server.specs.Stopping.{doors_of}
use Rattle.threaded_server.specs.Realms.{places_of, realms_of}
use Rattle.broker_threads.specs.Streams.{sight}
use Rattle.threaded_server.proofs.connection_table.ConnectionTable.release.Goals as goal

pub invariant_of-self : goal.invariant_of-self
invariant_of-self g c =
    let table = c.args.self.now in
    let s = nobody_left table.roster.over.plan c.join.new.self.over.plan (realms_of table.realms) (lists_of table.posters) table.roster.entries.items c.join.new.self.entries.items (items_of table.roster.over.streams) (items_of c.join.new.self.over.streams)
    c.join.ensures.plan c.in_err-conn.ensures.over.1 c.in_err-conn.ensures.over.0 (record { free = table.free; served = table.served; say = table.say; kept = table.kept; began = table.began }) in
    record { same = table.same ∙ ap (λ p. p.value) (sym c.join.ensures.plan); free = s.free; served = s.served; say = s.say; numbered = still_numbered table.seats table.roster.entries.items c.join.new.self.entries.items (items_of table.roster.over.streams) (items_of c.join.new.self.over.streams) c.in_err-conn.ensures.over.1 c.in_err-conn.ensures.over.0 table.numbered; seated = still_seated table.seats table.seats table.roster.entries.items c.join.new.self.entries.items (items_of table.roster.lent) (items_of c.join.new.self.lent) refl c.in_err-conn.ensures.over.1 c.join.ensures.lent table.seated; kept = s.kept; in_order = table.in_order; shown = same_cover (items_of table.roster.over.streams) (items_of c.join.new.self.over.streams) (doors_of table.doors) c.in_err-conn.ensures.over.0 table.shown; began = s.began }

pub take_in-gone-requires-clause-seen : goal.take_in-gone-requires-clause-seen
take_in-gone-requires-clause-seen g c κs within =
    let table = c.args.self.now in
    let see = sight g.I.Source.seen g.O.Sink.seen in
    let left = c.in_ok-conn.ensures.over in
    let stood = entry_stood see (places_of (realms_of table.realms)) table.roster.entries.items c.args.place c.in_ok-conn.conn c.in_ok-conn.left _ _ left table.served in
    reader_left see (realms_of table.realms) left.entry.began.value c.in_ok-conn.left left.reads stood.0

pub see-requires-clause-inboxes : goal.see-requires-clause-inboxes
see-requires-clause-inboxes g c κs within =
    let table = c.args.self.now in
    let see = sight g.I.Source.seen g.O.Sink.seen in
    let left = c.in_ok-conn.ensures.over in
    let stood = entry_stood see (places_of (realms_of table.realms)) table.roster.entries.items c.args.place c.in_ok-conn.conn c.in_ok-conn.left _ _ left table.served in
    reader_doors see (realms_of table.realms) (doors_of table.doors) left.entry.began.value c.in_ok-conn.left table.in_order left.reads stood.0

pub invariant_of-self-2 : goal.invariant_of-self-2
invariant_of-self-2 g c =
    let table = c.args.self.now in
    let left = c.in_ok-conn.ensures.over in
    let see = sight g.I.Source.seen g.O.Sink.seen in
    let took = c.take_in-gone.ensures in
    let saw = c.see.ensures in
    let put : PutsBack c.args.place c.in_ok-conn.left.posters.items (lists_of table.posters) (lists_of c.take_in-gone.new.posters) = record { back = c.see.new.posters.items; same = saw.traces; put = took.posters } in
    let stood : Standing table.roster.over.plan.value (realms_of table.realms) (lists_of table.posters) table.roster.entries.items (items_of table.roster.over.streams) = record { free = table.free; served = table.served; say = table.say; kept = table.kept; began = table.began } in
    let s = left_standing (sight g.I.Source.seen g.O.Sink.seen) table.roster.over.plan c.join.new.self.over.plan (realms_of table.realms) (realms_of c.take_in-gone.new.realms) (lists_of table.posters) (lists_of c.take_in-gone.new.posters) table.roster.entries.items c.join.new.self.entries.items
    (items_of table.roster.over.streams) (items_of c.join.new.self.over.streams) c.args.place c.in_ok-conn.conn c.in_ok-conn.left c.join.ensures.plan c.join.ensures.entries left (table.numbered.served c.args.place left.entry left.held).own took.realms put stood in
    let in_order = doors_after (realms_of table.realms) (realms_of c.take_in-gone.new.realms) (seen_of c.in_ok-conn.left.course) (traces c.in_ok-conn.left.posters.items) (doors_of table.doors) (doors_of c.see.new.self) took.realms saw.seen table.in_order in
    let shown = left_shown see table.roster.over.plan c.join.new.self.over.plan (realms_of table.realms) (realms_of c.take_in-gone.new.realms) (lists_of table.posters) (lists_of c.take_in-gone.new.posters) table.roster.entries.items c.join.new.self.entries.items (items_of table.roster.over.streams)
    (items_of c.join.new.self.over.streams) c.args.place c.in_ok-conn.conn c.in_ok-conn.left (doors_of table.doors) (doors_of c.see.new.self) table.seated.places left put stood s saw.seen in_order table.shown in
    record { same = table.same ∙ ap (λ p. p.value) (sym c.join.ensures.plan); free = s.free; served = s.served; say = s.say; numbered = back_numbered table.seats c.vacate.new.seats c.in_ok-conn.conn c.join.new.self.entries.items (items_of c.join.new.self.over.streams) c.vacate.ensures (left_numbered table.seats table.roster.entries.items c.join.new.self.entries.items (items_of table.roster.over.streams) (items_of c.join.new.self.over.streams) c.args.place left.entry left.left c.join.ensures.entries left.held left.over table.numbered); seated = seat_left table.seats c.vacate.new.seats table.roster.entries.items c.join.new.self.entries.items (items_of table.roster.lent) (items_of c.join.new.self.lent) c.in_ok-conn.conn c.args.place left.entry left.held (table.numbered.served c.args.place left.entry left.held).seat left.number c.vacate.ensures c.join.ensures.entries c.join.ensures.lent table.seated; kept = s.kept; in_order = in_order; shown = shown; began = s.began }

pub returns-clause-realms : goal.returns-clause-realms
returns-clause-realms g c = takes_long (realms_of c.args.self.now.realms) (seen_of c.in_ok-conn.left.course) (realms_of c.take_in-gone.new.realms) c.take_in-gone.ensures.realms

pub returns-clause-over : goal.returns-clause-over
returns-clause-over g c =
    let left = c.in_ok-conn.ensures.over in
    seated_adds _ _ left.entry.began left.left c.in_ok-conn.left _ c.take_in-gone.result.0.source c.take_in-gone.result.0.sink c.take_in-gone.result.0.fate left.over refl left.left_is c.take_in-gone.ensures.source c.take_in-gone.ensures.sink c.take_in-gone.ensures.fate

pub returns-clause-stops : goal.returns-clause-stops
returns-clause-stops g c = c.see.ensures.seen.stops
