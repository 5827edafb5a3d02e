use Rattle.std.proofs.Common.{◌≡◌, None, Some, map, option_map, replicate}
use Rattle.threaded_server.proofs.poster_table.PosterTable.new.Given as goal

abbrev pub invariant-loop-place : goal.invariant-loop-place
invariant-loop-place g l = map (option_map (λ posters. posters.items)) l.slots.items ≡ replicate l._place (Some (replicate l.fn.realms None))
