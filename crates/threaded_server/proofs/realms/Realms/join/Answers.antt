use Rattle.std.proofs.Common.{◌≡◌, ◌≤◌, ◌<◌, ◌+◌, [], ◌∷◌, ◌++◌, length, length-append, map, refl, sym, ap, ◌∙◌, append_assoc, append-nil, subst, arith}
use Rattle.std.proofs.lemmas.List.{length-map, map-append}
use Rattle.ghost_state.specs.GhostList.{items_of}
use Rattle.broker_threads.proofs.Lemmas.{none_left}
use Rattle.threaded_server.proofs.DoorSteps.{heads}
use Rattle.threaded_server.proofs.RunSteps.{RunSoFar, first_of, next_stands, posted_none, posted_on, runs_to, so_far_all, so_far_none, so_far_on}
use Rattle.realm_inbox.specs.EndViews.{received}
use Rattle.realm_inbox.specs.Seats.{at_seat}
use Rattle.threaded_server.specs.Posters.{lists_of}
use Rattle.threaded_server.specs.Realms.{RunsTo, inbox_in, shown}
use Rattle.threaded_server.specs.Stopping.{DoorView, door_view, doors_of, inboxes_in}
use Rattle.threaded_server.specs.declared.realm_run.RealmRun.{RealmRun}
use Rattle.threaded_server.proofs.realms.Realms.join.Goals as goal

pub loop-realm-init : goal.loop-realm-init
loop-realm-init g c =
    let handles = c.args.self.handles.items in
    let all : length c.args.self.handles.items + 0 ≡ c.len-realm-end.result = omega (arith, c.len-realm-end.ensures) in (
      so_far_none (map shown handles) (items_of c.new-runs.result) c.new-runs.ensures,
      (ap length c.new-runs.ensures, all),
      λ k i more. refl,
      posted_none (lists_of c.args.posters) (items_of c.new-runs.result) c.new-runs.ensures,
      ap (λ l. map (λ run. door_view run.door.value) l ++ doors_of c.args.doors) (sym c.new-runs.ensures),
      c.requires.doors,
    )

pub unreachable-requires : goal.unreachable-requires
unreachable-requires g c =
    let held = c.loop-realm.invariant in
    let handles = c.loop-realm.handles.items in
    let none : length (inboxes_in (doors_of c.loop-realm.doors)) ≡ 0 = ap (λ l. length (inboxes_in l)) c.in_default.ensures in
    let long : length (inboxes_in (doors_of c.loop-realm.doors)) ≡ length c.loop-realm.handles.items = ap length (sym held.5) ∙ length-map (map shown handles) inbox_in ∙ length-map handles shown in
    omega (arith, none, long, held.1.1, c.loop-realm-test.true)

pub join-began-requires-clause-inbox : goal.join-began-requires-clause-inbox
join-began-requires-clause-inbox g c κs within =
    let held = c.loop-realm.invariant in
    let handles = c.loop-realm.handles.items in
    let some : 0 < length c.loop-realm.handles.items = omega (arith, c.remove.ensures.len) in
    let split = ap (map shown) (first_of handles c.remove.result some c.remove.ensures.value) ∙ ap (λ l. shown c.remove.result ∷ map shown l) (sym c.remove.ensures.items) in
    (heads (inbox_in (shown c.remove.result)) (door_view c.in-Some.door).inbox (map inbox_in (map shown c.remove.new.self.items)) (inboxes_in (doors_of c.take_first.new.self)) (sym (ap (map inbox_in) split) ∙ held.5 ∙ ap inboxes_in c.in-Some.ensures)).0

pub drain_inbox-requires-clause-here : goal.drain_inbox-requires-clause-here
drain_inbox-requires-clause-here g c κs within k p e =
    let held = c.loop-realm.invariant in
    let handles = c.loop-realm.handles.items in
    let some : 0 < length c.loop-realm.handles.items = omega (arith, c.remove.ensures.len) in
    let split = ap (map shown) (first_of handles c.remove.result some c.remove.ensures.value) ∙ ap (λ l. shown c.remove.result ∷ map shown l) (sym c.remove.ensures.items) in
    let here : c.loop-realm.realm ≤ c.loop-realm.realm = omega arith in
    next_stands (map shown c.args.self.handles.items) (map shown c.remove.new.self.items) (shown c.remove.result) (items_of c.loop-realm.runs) c.join-began.result.0.value c.join-began.result.1 c.loop-realm.realm (lists_of c.args.posters) (lists_of c.loop-realm.posters)
    (subst (λ l. RunSoFar (map shown c.args.self.handles.items) l (items_of c.loop-realm.runs)) split held.0) held.1.0 c.join-began.ensures.back c.requires.posters (λ j. held.2 j c.loop-realm.realm here) k p e

pub loop-realm-preserved : goal.loop-realm-preserved
loop-realm-preserved g c =
    let held = c.loop-realm.invariant in
    let handles = c.loop-realm.handles.items in
    let runs = items_of c.loop-realm.runs in
    let realm = c.loop-realm.realm in
    let some : 0 < length c.loop-realm.handles.items = omega (arith, c.remove.ensures.len) in
    let split = ap (map shown) (first_of handles c.remove.result some c.remove.ensures.value) ∙ ap (λ l. shown c.remove.result ∷ map shown l) (sym c.remove.ensures.items) in
    let here : realm ≤ realm = omega arith in
    let ran = runs_to (shown c.remove.result) c.join-began.result.0 c.in-Some.door c.of-last.result c.join-began.result.1 c.of-ended.result c.drain_inbox.new.inbox c.of.result c.of-last.ensures c.of-ended.ensures c.of.ensures c.join-began.ensures.back c.join-began.ensures.told c.drain_inbox.ensures.more in
    let doors = doors_of c.take_first.new.self in
    let view : RealmRun g.row.S.Denot → DoorView g.row.S.Denot = λ run. door_view run.door.value in
    let last : view c.of-in-loop-realm.result.value ≡ door_view c.in-Some.door = ap view c.of-in-loop-realm.ensures ∙ ap door_view c.of-last.ensures in
    let left : length c.remove.new.self.items + (realm + 1) ≡ c.len-realm-end.result = omega (arith, c.remove.ensures.len, held.1.1) in (
      so_far_on _ (map shown handles) (map shown c.remove.new.self.items) (shown c.remove.result) runs (items_of c.add.new.self) c.of-in-loop-realm.result.value held.0 split c.add.ensures
          (subst (λ run. RunsTo (shown c.remove.result) run) (sym c.of-in-loop-realm.ensures) ran),
      (ap length c.add.ensures ∙ length-append runs (c.of-in-loop-realm.result.value ∷ []) ∙ ap (λ n. n + 1) held.1.0, left),
      λ k i more. c.drain_inbox.ensures.others k i (λ same. omega (arith, more, same)) ∙ held.2 k i (omega (arith, more)),
      posted_on runs (items_of c.add.new.self) c.of-in-loop-realm.result.value realm (lists_of c.args.posters) (lists_of c.loop-realm.posters) c.add.ensures held.1.0 (λ k. held.2 k realm here)
          (λ k p less at. ap (λ run. at_seat (k + 1) (received run.inbox.value)) c.of-in-loop-realm.ensures ∙ ap (λ i. at_seat (k + 1) (received i)) c.of.ensures ∙ c.drain_inbox.ensures.received k p less at) held.3,
      held.4 ∙ ap (λ l. map view runs ++ l) (c.in-Some.ensures ∙ ap (λ v. v ∷ doors) (sym last)) ∙ sym (append_assoc (map view runs) (view c.of-in-loop-realm.result.value ∷ []) doors)
          ∙ ap (λ l. l ++ doors) (sym (map-append view runs (c.of-in-loop-realm.result.value ∷ []))) ∙ ap (λ l. map view l ++ doors) (sym c.add.ensures),
      (heads (inbox_in (shown c.remove.result)) (door_view c.in-Some.door).inbox (map inbox_in (map shown c.remove.new.self.items)) (inboxes_in doors) (sym (ap (map inbox_in) split) ∙ held.5 ∙ ap inboxes_in c.in-Some.ensures)).1,
    )

pub returns-clause-doors : goal.returns-clause-doors
returns-clause-doors g c =
    let held = c.loop-realm.invariant in
    let none : length c.loop-realm.handles.items ≡ 0 = omega (arith, held.1.1, c.loop-realm-test.false) in
    let left : length (doors_of c.loop-realm.doors) ≡ 0 = sym (length-map (doors_of c.loop-realm.doors) (λ v. v.inbox)) ∙ ap length (sym held.5) ∙ length-map (map shown c.loop-realm.handles.items) inbox_in ∙ length-map c.loop-realm.handles.items shown ∙ none in
    held.4 ∙ ap (λ l. map (λ run. door_view run.door.value) (items_of c.loop-realm.runs) ++ l) (none_left (doors_of c.loop-realm.doors) left) ∙ append-nil (map (λ run. door_view run.door.value) (items_of c.loop-realm.runs))

pub returns-clause-runs : goal.returns-clause-runs
returns-clause-runs g c =
    let held = c.loop-realm.invariant in
    let none : length c.loop-realm.handles.items ≡ 0 = omega (arith, held.1.1, c.loop-realm-test.false) in
    so_far_all (map shown c.args.self.handles.items) (map shown c.loop-realm.handles.items) (items_of c.loop-realm.runs) held.0 (ap (map shown) (none_left c.loop-realm.handles.items none))

pub returns-clause-received : goal.returns-clause-received
returns-clause-received g c = c.loop-realm.invariant.3
