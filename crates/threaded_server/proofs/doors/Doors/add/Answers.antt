use Rattle.std.proofs.Common.{[], ◌∷◌, ◌++◌, map, ap, ◌∙◌}
use Rattle.std.proofs.lemmas.List.{map-append}
use Rattle.threaded_server.specs.Stopping.{door_view}
use Rattle.threaded_server.proofs.doors.Doors.add.Goals as goal

pub returns-in-Ok : goal.returns-in-Ok
returns-in-Ok g c =
    let held = c.loop.invariant in
    ap (map door_view) c.in-Ok.ensures.items ∙ map-append door_view c.loop.self.doors.items (c.loop.door ∷ []) ∙ (λ i. map door_view (held.0 i) ++ door_view (held.1 i) ∷ [])
