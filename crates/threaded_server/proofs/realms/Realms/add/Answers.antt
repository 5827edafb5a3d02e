use Rattle.std.proofs.Common.{[], ◌∷◌, map, ap, ◌∙◌}
use Rattle.std.proofs.lemmas.List.{map-append}
use Rattle.threaded_server.specs.Realms.{shown}
use Rattle.threaded_server.proofs.realms.Realms.add.Goals as goal

pub returns-in-Ok : goal.returns-in-Ok
returns-in-Ok g c = ap (map shown) c.in-Ok.ensures.items ∙ map-append shown c.args.self.now.handles.items (c.args.handle ∷ [])
