use Rattle.std.proofs.Common.{◌≡◌, ◌+◌, option_map, sym, ap, ◌∙◌, subst}
use mathlib.Core.List.{IsPrefix}
use Rattle.realm_inbox.specs.EndViews.{inbox_of, posted, received}
use Rattle.realm_inbox.specs.Seats.{at_seat}
use Rattle.threaded_server.proofs.DrainSteps.{both_begin, traced, traced_home, traced_posted, traces_at}
use Rattle.threaded_server.specs.Posters.{IsOfInbox, lists_of, poster_at, trace}
use Rattle.threaded_server.proofs.poster_table.PosterTable.drain_inbox.Goals as goal

pub compare-requires-clause-here : goal.compare-requires-clause-here
compare-requires-clause-here g c κs within k p e =
    let were = lists_of c.args.self.now in
    let now = lists_of c.drain_seats.new.self in
    let was = traced (poster_at were k c.args.realm) (poster_at now k c.args.realm) p (traces_at were now c.drain_seats.ensures.traces k c.args.realm) e in
    subst (λ i. IsOfInbox i (k + 1) p) (sym c.drain_seats.ensures.same) (traced_home (inbox_of c.args.inbox.now) (k + 1) was.0 p was.2 (c.requires.here k was.0 was.1))

pub returns-clause-others : goal.returns-clause-others
returns-clause-others g c k i other = ap (option_map trace) (c.compare.ensures.others k i other) ∙ traces_at (lists_of c.args.self.now) (lists_of c.drain_seats.new.self) c.drain_seats.ensures.traces k i

pub returns-clause-received : goal.returns-clause-received
returns-clause-received g c k p less at =
    let were = lists_of c.args.self.now in
    let now = lists_of c.drain_seats.new.self in
    let realm = c.args.realm in
    let got = at_seat (k + 1) (received c.drain_seats.new.inbox) in
    let q = traced (poster_at now k realm) (poster_at were k realm) p (sym (traces_at were now c.drain_seats.ensures.traces k realm)) at in
    ap (at_seat (k + 1)) c.compare.ensures.same
    ∙ both_begin got (posted p) (subst (λ l. IsPrefix got l) (traced_posted q.0 p q.2) (c.compare.ensures.received k q.0 less q.1)) (c.drain_seats.ensures.received k p less at)

pub returns-clause-more : goal.returns-clause-more
returns-clause-more g c = subst (λ l. IsPrefix (received c.args.inbox.now) l) (sym c.compare.ensures.same) c.drain_seats.ensures.more
