use Rattle.std.proofs.Common.{Some, option_map, set, sym, ap, ◌∙◌}
use Rattle.threaded_server.proofs.poster_table.put_in.Goals as goal

pub returns-in-Some : goal.returns-in-Some
returns-in-Some g c = ap Some c.put_poster.ensures ∙ sym (ap (λ o. option_map (λ posters. set posters c.args.realm (Some c.args.poster)) (option_map (λ posters. posters.items) o)) c.in-Some.is)
