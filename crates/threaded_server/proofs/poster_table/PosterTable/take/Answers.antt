use Rattle.std.proofs.Common.{slice_get, sym, ap, ◌∙◌}
use Rattle.std.specs.Option.{option_flatten}
use Rattle.threaded_server.specs.Posters.{lists_of}
use Rattle.threaded_server.proofs.poster_table.PosterTable.take.Goals as goal

pub unreachable-requires : goal.unreachable-requires
unreachable-requires g c = c.requires.there (ap (λ k. option_flatten (slice_get (lists_of c.args.self.now) k)) (sym c.seat_index.ensures) ∙ c.in_default.ensures)
