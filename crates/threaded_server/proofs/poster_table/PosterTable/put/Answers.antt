use Rattle.std.proofs.Common.{Some, option_map}
use Rattle.std.proofs.lemmas.List.{map-set}
use Rattle.threaded_server.proofs.poster_table.PosterTable.put.Goals as goal

pub returns-in-Some : goal.returns-in-Some
returns-in-Some g c = map-set (option_map (λ posters. posters.items)) c.args.self.now.slots.items c.args.place (Some c.args.posters)
