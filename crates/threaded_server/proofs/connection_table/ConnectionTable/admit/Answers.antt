use Rattle.std.proofs.Common.{◌≡◌, ◌-◌, [], ◌∷◌, ◌++◌, None, length, refl, sym, ap, ◌∙◌, subst}
use Rattle.threaded_server.specs.Seats.{free_at}
use Rattle.ghost_state.specs.GhostList.{items_of}
use Rattle.threaded_server.proofs.Numbering.{back_numbered, over_numbered, seat_numbered, taken_numbered, took_numbered, unseated_numbered}
use Rattle.threaded_server.proofs.RealmSteps.{takes_long}
use Rattle.threaded_server.proofs.RosterSteps.{seated_before}
use Rattle.threaded_server.proofs.SeatSteps.{free_place, seat_given, seat_kept, still_seated}
use Rattle.threaded_server.proofs.StoppingLemmas.{doors_after, over_covers, same_cover}
use Rattle.threaded_server.proofs.TableStanding.{back_standing, ended_shown, reader_doors, ended_standing, posters_there, reader_left, seat_asks, seat_standing, taken_at, untouched_standing}
use Rattle.threaded_server.proofs.TableSteps.{lent_on, seated_adds, untouched_adds}
use Rattle.broker_threads.specs.Courses.{seen_of}
use Rattle.threaded_server.specs.Overs.{Found, Went}
use Rattle.threaded_server.specs.Posters.{AreAt, AreOf, PutsBack, lists_of, traces}
use Rattle.threaded_server.specs.Stopping.{doors_of}
use Rattle.threaded_server.specs.Realms.{places_of, realms_of}
use Rattle.threaded_server.specs.Roster.{halves_of}
use Rattle.broker_threads.specs.Streams.{Reads, offer_of, sight}
use Rattle.threaded_server.specs.declared.over.Over.TheVariants.{Untouched}
use Rattle.wamp_ids.specs.Numbers.{seat_of}
use Rattle.threaded_server.proofs.connection_table.ConnectionTable.admit.Goals as goal

pub invariant_of-self : goal.invariant_of-self
invariant_of-self g c =
    let table = c.args.self.now in
    record {
      same = table.same;
      free = table.free;
      served = table.served;
      say = table.say;
      numbered = took_numbered table.seats c.take.new.self c.take.result table.roster.entries.items (items_of table.roster.over.streams) c.take.ensures.ok c.take.ensures.err table.numbered;
      seated = still_seated table.seats c.take.new.self table.roster.entries.items table.roster.entries.items (items_of table.roster.lent) (items_of table.roster.lent) c.in_default.ensures.err refl refl table.seated;
      kept = table.kept;
      in_order = table.in_order;
      shown = table.shown;
      began = table.began;
    }

pub turn_away-requires-clause-full : goal.turn_away-requires-clause-full
turn_away-requires-clause-full g c κs within place less = subst (λ seats. free_at seats place ≡ None) (sym c.in_default.ensures.err) (c.in_default.ensures.full place less)

pub take-posters-requires-clause-there : goal.take-posters-requires-clause-there
take-posters-requires-clause-there g c κs within =
    let table = c.args.self.now in
    posters_there table.roster.over.plan.value (realms_of table.realms) c.in-Ok.conn (lists_of table.posters) table.roster.entries.items (items_of table.roster.over.streams) (free_place table.seats c.take.new.self c.in-Ok.conn table.roster.entries.items (items_of table.roster.lent) (seat_of c.in-Ok.conn - 1) c.in-Ok.ensures.ok refl table.seated) table.say

pub take-posters-requires-clause-seat : goal.take-posters-requires-clause-seat
take-posters-requires-clause-seat g c κs within = seat_asks (places_of (realms_of c.args.self.now.realms)) c.in-Ok.conn (lists_of c.args.self.now.posters) c.args.self.now.free

pub seat-requires-clause-free : goal.seat-requires-clause-free
seat-requires-clause-free g c κs within =
    let table = c.args.self.now in
    free_place table.seats c.take.new.self c.in-Ok.conn table.roster.entries.items (items_of table.roster.lent) c.seat_index-place.result c.in-Ok.ensures.ok c.seat_index-place.ensures table.seated

pub invariant_of-self-in-Runs : goal.invariant_of-self-in-Runs
invariant_of-self-in-Runs g c =
    let table = c.args.self.now in
    let conn = c.in-Ok.conn in
    let number = taken_numbered table.seats c.take.new.self c.in-Ok.conn table.roster.entries.items (items_of table.roster.over.streams) c.in-Ok.ensures.ok table.numbered in
    let s = seat_standing table.roster.over.plan c.seat.new.self.over.plan (realms_of table.realms) conn c.take-posters.result.items (lists_of table.posters) (lists_of c.take-posters.new.self) table.roster.entries.items c.seat.new.self.entries.items (items_of table.roster.over.streams)
    (items_of c.seat.new.self.over.streams) c.seat_index-place.result c.in-Runs.entry c.take-posters.ensures c.seat_index-place.ensures c.in-Runs.ensures.1.posts c.seat.ensures.plan c.seat.ensures.entries c.seat.ensures.over (record { free = table.free; served = table.served; say = table.say; kept = table.kept; began = table.began }) in
    record {
      same = table.same ∙ ap (λ p. p.value) (sym c.seat.ensures.plan);
      free = s.free;
      served = s.served;
      say = s.say;
      numbered = seat_numbered c.take.new.self conn table.roster.entries.items c.seat.new.self.entries.items (items_of table.roster.over.streams) (items_of c.seat.new.self.over.streams) c.seat_index-place.result c.in-Runs.entry c.seat.ensures.entries c.seat.ensures.over c.seat_index-place.ensures
          c.in-Runs.ensures.1.number (subst (λ l. AreOf c.in-Ok.conn l) (sym c.in-Runs.ensures.1.posts) c.take-posters.ensures.relabels.own) number.1 number.0;
      seated = seat_given table.seats c.take.new.self conn table.roster.entries.items c.seat.new.self.entries.items (items_of table.roster.lent) (items_of c.seat.new.self.lent) (halves_of c.in-Runs.entry) c.seat_index-place.result c.in-Runs.entry table.numbered.long c.in-Ok.ensures.ok c.seat_index-place.ensures
          c.in-Runs.ensures.1.number c.seat.ensures.entries c.seat.ensures.lent table.seated;
      kept = s.kept;
      in_order = table.in_order;
      shown = same_cover (items_of table.roster.over.streams) (items_of c.seat.new.self.over.streams) (doors_of table.doors) c.seat.ensures.over table.shown;
      began = s.began;
    }

pub pass-requires-clause-halves : goal.pass-requires-clause-halves
pass-requires-clause-halves g c κs within = c.in-Ended.ensures.0 ∙ sym c.in-Ended.ensures.1.halves ∙ sym (seated_before c.in-Ended.began c.of.result c.of-in-Ended.result.value c.of-in-Ended.ensures)

pub pass-requires-clause-went : goal.pass-requires-clause-went
pass-requires-clause-went g c κs within =
    let table = c.args.self.now in
    let see = sight g.I.Source.seen g.O.Sink.seen in
    subst (λ o. Went see (offer_of table.roster.over.plan.value) o) (sym c.of-in-Ended.ensures) (ap offer_of (c.in-Ended.ensures.1.serves ∙ table.same), subst (λ ended. Reads see c.in-Ended.began.value ended) (sym c.of.ensures) c.in-Ended.ensures.2)

pub pass-requires-clause-found : goal.pass-requires-clause-found
pass-requires-clause-found g c κs within =
    let roster = c.args.self.now.roster in
    subst (λ o. Found (items_of roster.lent ++ c.in-Ended.halves.value ∷ []) (length (items_of roster.over.streams)) o) (sym c.of-in-Ended.ensures) tt

pub take_in-gone-requires-clause-seen : goal.take_in-gone-requires-clause-seen
take_in-gone-requires-clause-seen g c κs within =
    let table = c.args.self.now in
    let places = places_of (realms_of c.args.self.now.realms) in
    let at = taken_at places c.in-Ok.conn (lists_of table.posters) (lists_of c.take-posters.new.self) c.take-posters.result.items c.take-posters.ensures table.free in
    reader_left (sight g.I.Source.seen g.O.Sink.seen) (realms_of table.realms) c.in-Ended.began.value c.in-Ended.ended c.in-Ended.ensures.2 (subst (λ l. AreAt places l) (sym c.in-Ended.ensures.1.posts) at.0)

pub see-requires-clause-inboxes : goal.see-requires-clause-inboxes
see-requires-clause-inboxes g c κs within =
    let table = c.args.self.now in
    let places = places_of (realms_of table.realms) in
    let at = taken_at places c.in-Ok.conn (lists_of table.posters) (lists_of c.take-posters.new.self) c.take-posters.result.items c.take-posters.ensures table.free in
    reader_doors (sight g.I.Source.seen g.O.Sink.seen) (realms_of table.realms) (doors_of table.doors) c.in-Ended.began.value c.in-Ended.ended table.in_order c.in-Ended.ensures.2 (subst (λ l. AreAt places l) (sym c.in-Ended.ensures.1.posts) at.0)

pub invariant_of-self-in-Ended : goal.invariant_of-self-in-Ended
invariant_of-self-in-Ended g c =
    let table = c.args.self.now in
    let conn = c.in-Ok.conn in
    let number = taken_numbered table.seats c.take.new.self c.in-Ok.conn table.roster.entries.items (items_of table.roster.over.streams) c.in-Ok.ensures.ok table.numbered in
    let free = free_place table.seats c.take.new.self conn table.roster.entries.items (items_of table.roster.lent) c.seat_index-place.result c.in-Ok.ensures.ok c.seat_index-place.ensures table.seated in
    let same = ap (λ v. v.items) c.pass.ensures.entries in
    let took = c.take_in-gone.ensures in
    let saw = c.see.ensures in
    let put : PutsBack c.seat_index-place.result c.in-Ended.ended.posters.items (lists_of c.take-posters.new.self) (lists_of c.take_in-gone.new.posters) = record { back = c.see.new.posters.items; same = saw.traces; put = took.posters } in
    let s = ended_standing (sight g.I.Source.seen g.O.Sink.seen) table.roster.over.plan c.pass.new.self.over.plan (realms_of table.realms) (realms_of c.take_in-gone.new.realms) conn c.take-posters.result.items (lists_of table.posters) (lists_of c.take-posters.new.self) (lists_of c.take_in-gone.new.posters)
    table.roster.entries.items c.pass.new.self.entries.items (items_of table.roster.over.streams) (items_of c.pass.new.self.over.streams) c.seat_index-place.result c.in-Ended.began c.of.result c.in-Ended.ended c.of-in-Ended.result.value c.take-posters.ensures c.seat_index-place.ensures
    c.in-Ended.ensures.1.number c.in-Ended.ensures.1.posts c.pass.ensures.plan same c.pass.ensures.over c.of-in-Ended.ensures c.of.ensures c.in-Ended.ensures.2 took.realms put (record { free = table.free; served = table.served; say = table.say; kept = table.kept; began = table.began }) in
    let in_order = doors_after (realms_of table.realms) (realms_of c.take_in-gone.new.realms) (seen_of c.in-Ended.ended.course) (traces c.in-Ended.ended.posters.items) (doors_of table.doors) (doors_of c.see.new.self) took.realms saw.seen table.in_order in
    record {
      same = table.same ∙ ap (λ p. p.value) (sym c.pass.ensures.plan);
      free = s.free;
      served = s.served;
      say = s.say;
      numbered = back_numbered c.take.new.self c.vacate.new.seats conn c.pass.new.self.entries.items (items_of c.pass.new.self.over.streams) c.vacate.ensures
          (unseated_numbered c.take.new.self conn table.roster.entries.items c.pass.new.self.entries.items (items_of table.roster.over.streams) (items_of c.pass.new.self.over.streams) c.seat_index-place.result c.in-Ended.began c.of.result c.of-in-Ended.result.value same free c.seat_index-place.ensures
          c.pass.ensures.over c.of-in-Ended.ensures c.in-Ended.ensures.1.number number.1 number.0);
      seated = seat_kept table.seats c.take.new.self c.vacate.new.seats conn table.roster.entries.items c.pass.new.self.entries.items (items_of table.roster.lent) (items_of c.pass.new.self.lent) c.in-Ended.halves.value table.numbered.long c.in-Ok.ensures.ok c.vacate.ensures same c.pass.ensures.lent table.seated;
      kept = s.kept;
      in_order = in_order;
      shown = ended_shown c.pass.new.self.over.plan (realms_of table.realms) (realms_of c.take_in-gone.new.realms) conn c.take-posters.result.items (lists_of table.posters) (lists_of c.take-posters.new.self) (lists_of c.take_in-gone.new.posters) c.pass.new.self.entries.items (items_of table.roster.over.streams)
          (items_of c.pass.new.self.over.streams) c.seat_index-place.result c.in-Ended.began c.of.result c.in-Ended.ended c.of-in-Ended.result.value (doors_of table.doors) (doors_of c.see.new.self) c.take-posters.ensures c.seat_index-place.ensures c.in-Ended.ensures.1.posts c.pass.ensures.over c.of-in-Ended.ensures put
          table.free s saw.seen in_order table.shown;
      began = s.began;
    }

pub invariant_of-self-in-Refused : goal.invariant_of-self-in-Refused
invariant_of-self-in-Refused g c =
    let table = c.args.self.now in
    let conn = c.in-Ok.conn in
    let number = taken_numbered table.seats c.take.new.self c.in-Ok.conn table.roster.entries.items (items_of table.roster.over.streams) c.in-Ok.ensures.ok table.numbered in
    let same = ap (λ v. v.items) c.let_go-gone.ensures.entries in
    let b = back_standing table.roster.over.plan.value (realms_of table.realms) conn c.take-posters.result.items c.in-Refused.posters.items (lists_of table.posters) (lists_of c.take-posters.new.self) (lists_of c.put.new.self) table.roster.entries.items (items_of table.roster.over.streams) c.seat_index-place.result
    c.take-posters.ensures c.seat_index-place.ensures c.in-Refused.ensures.1 c.put.ensures (record { free = table.free; served = table.served; say = table.say; kept = table.kept; began = table.began }) in
    let s = untouched_standing table.roster.over.plan c.let_go-gone.new.self.over.plan (realms_of table.realms) (lists_of c.put.new.self) table.roster.entries.items c.let_go-gone.new.self.entries.items (items_of table.roster.over.streams) (items_of c.let_go-gone.new.self.over.streams) c.in-Refused.halves
    c.let_go-gone.ensures.plan same c.let_go-gone.ensures.over b in
    record {
      same = table.same ∙ ap (λ p. p.value) (sym c.let_go-gone.ensures.plan);
      free = s.free;
      served = s.served;
      say = s.say;
      numbered = back_numbered c.take.new.self c.vacate-in-Refused.new.seats conn c.let_go-gone.new.self.entries.items (items_of c.let_go-gone.new.self.over.streams) c.vacate-in-Refused.ensures
          (over_numbered c.take.new.self table.roster.entries.items c.let_go-gone.new.self.entries.items (items_of table.roster.over.streams) (items_of c.let_go-gone.new.self.over.streams) (Untouched c.let_go-gone.ensures.over.shown) same c.let_go-gone.ensures.over.added refl number.0);
      seated = seat_kept table.seats c.take.new.self c.vacate-in-Refused.new.seats conn table.roster.entries.items c.let_go-gone.new.self.entries.items (items_of table.roster.lent) (items_of c.let_go-gone.new.self.lent) c.in-Refused.halves table.numbered.long c.in-Ok.ensures.ok c.vacate-in-Refused.ensures same c.let_go-gone.ensures.lent table.seated;
      kept = s.kept;
      in_order = table.in_order;
      shown = over_covers (items_of table.roster.over.streams) (items_of c.let_go-gone.new.self.over.streams) (Untouched c.let_go-gone.ensures.over.shown) (doors_of table.doors) c.let_go-gone.ensures.over.added (λ realm number. refl) table.shown;
      began = s.began;
    }

pub returns-in-Runs-clause-lent : goal.returns-in-Runs-clause-lent
returns-in-Runs-clause-lent g c =
    lent_on (items_of c.args.self.now.roster.lent) (items_of c.args.self.now.roster.lent) (items_of c.seat.new.self.lent) (halves_of c.in-Runs.entry) (c.args.arrival.parts.source, c.args.arrival.parts.sink) c.seat.ensures.lent c.in-Runs.ensures.1.halves refl

pub returns-in-Ended-clause-lent : goal.returns-in-Ended-clause-lent
returns-in-Ended-clause-lent g c =
    lent_on (items_of c.args.self.now.roster.lent) (items_of c.args.self.now.roster.lent) (items_of c.pass.new.self.lent) c.in-Ended.halves.value (c.args.arrival.parts.source, c.args.arrival.parts.sink) c.pass.ensures.lent c.in-Ended.ensures.0 refl

pub returns-in-Ended-clause-realms : goal.returns-in-Ended-clause-realms
returns-in-Ended-clause-realms g c = takes_long (realms_of c.args.self.now.realms) (seen_of c.in-Ended.ended.course) (realms_of c.take_in-gone.new.realms) c.take_in-gone.ensures.realms

pub returns-in-Ended-clause-stops : goal.returns-in-Ended-clause-stops
returns-in-Ended-clause-stops g c = c.see.ensures.seen.stops

pub returns-in-Ended-clause-over : goal.returns-in-Ended-clause-over
returns-in-Ended-clause-over g c =
    seated_adds (items_of c.args.self.now.roster.over.streams) (items_of c.pass.new.self.over.streams) c.in-Ended.began c.of.result c.in-Ended.ended c.of-in-Ended.result.value c.take_in-gone.result.0.source c.take_in-gone.result.0.sink
    c.take_in-gone.result.0.fate c.pass.ensures.over c.of-in-Ended.ensures c.of.ensures c.take_in-gone.ensures.source c.take_in-gone.ensures.sink c.take_in-gone.ensures.fate

pub returns-clause-lent : goal.returns-clause-lent
returns-clause-lent g c =
    lent_on (items_of c.args.self.now.roster.lent) (items_of c.args.self.now.roster.lent) (items_of c.let_go-gone.new.self.lent) c.in-Refused.halves (c.args.arrival.parts.source, c.args.arrival.parts.sink) c.let_go-gone.ensures.lent c.in-Refused.ensures.0 refl

pub returns-clause-over : goal.returns-clause-over
returns-clause-over g c =
    untouched_adds (items_of c.args.self.now.roster.over.streams) (items_of c.let_go-gone.new.self.over.streams) c.in-Refused.halves c.let_go-gone.result.source.last.value c.let_go-gone.result.sink.last.value c.let_go-gone.result.fate c.let_go-gone.ensures.over c.let_go-gone.ensures.source c.let_go-gone.ensures.sink c.let_go-gone.ensures.fate
