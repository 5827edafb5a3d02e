use Rattle.std.proofs.Common.{◌≡◌, ◌≤◌, ◌<◌, length, map, refl, sym, ap, ◌∙◌, subst, arith}
use Rattle.std.proofs.lemmas.List.{length-map}
use Rattle.threaded_server.proofs.DoorSteps.{as_many, seen_all, seen_none, seen_on}
use Rattle.threaded_server.specs.Posters.{traces}
use Rattle.threaded_server.specs.Stopping.{AreOfInboxes, SeesAt, door_view, doors_of, inboxes_in}
use Rattle.threaded_server.proofs.doors.Doors.see.Goals as goal

pub loop-realm-init : goal.loop-realm-init
loop-realm-init g c = (refl, seen_none (traces c.args.posters.now.items) (doors_of c.args.self.now), sym c.args.self.now.doors.ok.0 ∙ sym c.len-realm-end.ensures)

pub see_at-requires-clause-inboxes : goal.see_at-requires-clause-inboxes
see_at-requires-clause-inboxes g c κs within =
    let held = c.loop-realm.invariant in
    subst (λ l. AreOfInboxes l (traces c.loop-realm.posters.items)) (sym held.1.inboxes) (subst (λ t. AreOfInboxes (inboxes_in (doors_of c.args.self.now)) t) (sym held.0) c.requires.inboxes)

pub loop-realm-preserved : goal.loop-realm-preserved
loop-realm-preserved g c =
    let held = c.loop-realm.invariant in
    let now = doors_of c.loop-realm.self in
    let new = doors_of c.see_at.new.self in
    let all = traces c.args.posters.now.items in
    let within : c.loop-realm.realm < length (doors_of c.loop-realm.self) = omega (arith, held.2, length-map c.loop-realm.self.doors.items door_view) in
    let on = seen_on c.loop-realm.realm all (doors_of c.args.self.now) now new within held.1 (subst (λ t. SeesAt c.loop-realm.realm t now new) held.0 c.see_at.ensures.seen) in
    let long = as_many c.loop-realm.self c.see_at.new.self (on.inboxes ∙ sym held.1.inboxes) in
    (c.see_at.ensures.traces ∙ held.0, on, long ∙ held.2)

pub returns-clause-traces : goal.returns-clause-traces
returns-clause-traces g c = c.loop-realm.invariant.0

pub returns-clause-seen : goal.returns-clause-seen
returns-clause-seen g c =
    let held = c.loop-realm.invariant in
    let all : length (doors_of c.args.self.now) ≤ c.loop-realm.realm = omega (arith, length-map c.args.self.now.doors.items door_view, sym c.args.self.now.doors.ok.0 ∙ sym c.len-realm-end.ensures, c.loop-realm-test.false) in
    seen_all c.loop-realm.realm (traces c.args.posters.now.items) (doors_of c.args.self.now) (doors_of c.loop-realm.self) all held.1
