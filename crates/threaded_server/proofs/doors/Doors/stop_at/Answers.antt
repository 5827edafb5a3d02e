use Rattle.std.proofs.Common.{rules, ◌<◌, length, refl, sym, subst}
use Rattle.std.proofs.lemmas.List.{map-set}
use Rattle.std.proofs.lemmas.Option.{slice_get_read}
use Rattle.threaded_server.proofs.DoorSteps.{all_stay, may_stop, one_stops}
use Rattle.threaded_server.proofs.Places.{map_get}
use Rattle.threaded_server.specs.Stopping.{AllMayStop, door_view, doors_of}
use Rattle.threaded_server.proofs.doors.Doors.stop_at.Goals as goal

pub returns-in-Some : goal.returns-in-Some
returns-in-Some g c =
    let doors = c.args.self.now.doors.items in
    let door = c.in-Some.door.now in
    let within : c.args.realm < length c.args.self.now.doors.items = search rules in
    let at = map_get door_view doors c.args.realm door (slice_get_read doors (length doors) c.args.realm door refl within c.in-Some.ensures.value) in
    let may = may_stop c.stop.result door c.stop.new.self c.stop.ensures.told c.stop.ensures.shown c.stop.ensures.same in
    subst (λ l. AllMayStop (doors_of c.args.self.now) l) (sym (map-set door_view doors c.args.realm c.stop.new.self)) (one_stops (doors_of c.args.self.now) c.args.realm (door_view door) (door_view c.stop.new.self) at may)

pub returns-in_default : goal.returns-in_default
returns-in_default g c = all_stay (doors_of c.args.self.now)
