use Rattle.std.proofs.Common.{◌≡◌, drop, map}
use Rattle.command_line.specs.Grants.{bytes_of, pairs_of}
use Rattle.command_line.proofs.GrantsLemmas.{before}
use Rattle.command_line.proofs.grants.pairs_in.Given as goal

abbrev pub invariant-loop-text : goal.invariant-loop-text
invariant-loop-text l = pairs_of (map (λ t. t.now) l.texts) ≡ before (bytes_of l.pairs.items) (pairs_of (map (λ t. t.now) (drop l.text-index l.texts)))
