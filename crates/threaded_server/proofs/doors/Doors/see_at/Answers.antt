use Rattle.std.proofs.Common.{rules, ◌≡◌, ◌<◌, Some, length, slice_get, refl, sym, ap, ◌∙◌}
use Rattle.std.proofs.lemmas.Option.{slice_get_read}
use Rattle.threaded_server.proofs.DoorSteps.{saw_none, saw_poster}
use Rattle.threaded_server.proofs.DrainSteps.{put_back_traced, same_trace}
use Rattle.threaded_server.proofs.Places.{map_get}
use Rattle.threaded_server.specs.Posters.{trace}
use Rattle.std.specs.Prelude.{option_map}
use Rattle.threaded_server.specs.Stopping.{door_view}
use Rattle.threaded_server.proofs.doors.Doors.see_at.Goals as goal

pub sees-requires : goal.sees-requires
sees-requires g c =
    let doors = c.args.self.now.doors.items in
    let door = c.in-Some.door.now in
    let inside : c.args.realm < length c.args.self.now.doors.items = search rules in
    let at = slice_get_read doors (length doors) c.args.realm door refl inside c.in-Some.ensures.value in
    let here = map_get (λ d. d.inbox) _ c.args.realm (door_view door) (map_get door_view doors c.args.realm door at) in
    let there = map_get (option_map trace) c.args.posters.now.items c.args.realm (Some c.in-Some-take_poster.poster) c.in-Some-take_poster.ensures.taken.0 in
    record { inbox = c.requires.inboxes c.args.realm (door_view door).inbox (trace c.in-Some-take_poster.poster) here there }

pub returns-in-Some-take_poster-clause-traces : goal.returns-in-Some-take_poster-clause-traces
returns-in-Some-take_poster-clause-traces g c =
    put_back_traced c.args.posters.now.items c.take_poster.new.posters.items c.put_poster.new.posters.items c.args.realm c.in-Some-take_poster.poster c.sees.new.poster c.in-Some-take_poster.ensures.taken.0 c.in-Some-take_poster.ensures.taken.1 c.put_poster.ensures
    (same_trace c.in-Some-take_poster.poster c.sees.new.poster c.sees.ensures.poster)

pub returns-in-Some-take_poster-clause-seen : goal.returns-in-Some-take_poster-clause-seen
returns-in-Some-take_poster-clause-seen g c =
    let doors = c.args.self.now.doors.items in
    let door = c.in-Some.door.now in
    let inside : c.args.realm < length c.args.self.now.doors.items = search rules in
    let at = slice_get_read doors (length doors) c.args.realm door refl inside c.in-Some.ensures.value in
    saw_poster doors c.args.realm door c.sees.new.self c.args.posters.now.items c.in-Some-take_poster.poster c.sees.new.poster at c.in-Some-take_poster.ensures.taken.0 c.sees.ensures.poster c.sees.ensures.shown c.sees.ensures.told c.sees.ensures.same

pub returns-in_default-take_poster-clause-seen : goal.returns-in_default-take_poster-clause-seen
returns-in_default-take_poster-clause-seen g c =
    let doors = c.args.self.now.doors.items in
    let door = c.in-Some.door.now in
    let inside : c.args.realm < length c.args.self.now.doors.items = search rules in
    let at = slice_get_read doors (length doors) c.args.realm door refl inside c.in-Some.ensures.value in
    saw_none doors c.args.realm door c.args.posters.now.items at c.in_default-take_poster.ensures.there
