use Rattle.std.proofs.Common.{[], ◌∷◌, ◌++◌, map, sym, ap, ◌∙◌, subst}
use Rattle.std.proofs.lemmas.List.{map-append}
use Rattle.ghost_state.specs.GhostList.{items_of}
use Rattle.realm_inbox.specs.EndViews.{inbox_of}
use Rattle.threaded_server.proofs.DoorSteps.{none_more}
use Rattle.threaded_server.proofs.StoppingLemmas.{none_cover}
use Rattle.threaded_server.proofs.TableStanding.{one_realm, still_standing}
use Rattle.threaded_server.specs.Posters.{AllGain, lists_of}
use Rattle.threaded_server.specs.Realms.{inbox_in, places_of, realms_of, shown}
use Rattle.threaded_server.specs.Stopping.{door_view, doors_of, inboxes_in}
use Rattle.threaded_server.proofs.connection_table.ConnectionTable.add_realm.Goals as goal

pub join-requires-clause-inbox : goal.join-requires-clause-inbox
join-requires-clause-inbox g c κs within = ap (λ h. inbox_of (shown h).work.inbox) c.in-Err.ensures.1 ∙ sym c.requires.door.0

pub invariant_of-self : goal.invariant_of-self
invariant_of-self g c =
    let table = c.args.self.now in
    let s = still_standing table.roster.over.plan.value (realms_of table.realms) (realms_of c.add.new.self) (lists_of table.posters) table.roster.entries.items (items_of table.roster.over.streams) c.in-Err.ensures.0 (record { free = table.free; served = table.served; say = table.say; kept = table.kept; began = table.began }) in
    record { same = table.same; free = s.free; served = s.served; say = s.say; numbered = table.numbered; seated = table.seated; kept = s.kept; in_order = ap places_of c.in-Err.ensures.0 ∙ table.in_order; shown = table.shown; began = s.began }

pub invariant_of-self-2 : goal.invariant_of-self-2
invariant_of-self-2 g c =
    let table = c.args.self.now in
    let realms = realms_of table.realms in
    let doors = doors_of table.doors in
    let handle = shown c.args.handle in
    let door = door_view c.args.door in
    let s = one_realm table.roster.over.plan.value realms (realms_of c.add.new.self) handle (lists_of table.posters) (lists_of c.add_realm.new.self) table.roster.entries.items (items_of table.roster.over.streams) c.in_default.ensures
    c.requires.within c.requires.unused.long c.requires.unused.nobody c.requires.unused.nothing c.requires.began
    (subst (λ n. AllGain (inbox_in handle) n (lists_of table.posters) (lists_of c.add_realm.new.self)) c.len-place.ensures (c.add_realm.ensures (inbox_in handle) c.requires.seats))
    (record { free = table.free; served = table.served; say = table.say; kept = table.kept; began = table.began }) in
    let in_order = ap places_of c.in_default.ensures ∙ map-append inbox_in realms (handle ∷ []) ∙ ap (λ l. l ++ inbox_in handle ∷ []) table.in_order ∙ ap (λ d. inboxes_in doors ++ d ∷ []) (sym c.requires.door.0) ∙ sym (map-append (λ d. d.inbox) doors (door ∷ [])) ∙ ap inboxes_in (sym c.add-2.ensures) in
    record { same = table.same; free = s.free; served = s.served; say = s.say; numbered = table.numbered; seated = table.seated; kept = s.kept; in_order = in_order; shown = ∣ none_cover (items_of table.roster.over.streams) (doors_of c.add-2.new.self) c.requires.unused.nothing ∣₁; began = s.began }

pub returns-clause-stops : goal.returns-clause-stops
returns-clause-stops g c = none_more (doors_of c.args.self.now.doors) (doors_of c.add-2.new.self) (door_view c.args.door) c.add-2.ensures c.requires.door.2
