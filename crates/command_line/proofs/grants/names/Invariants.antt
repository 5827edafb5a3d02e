use Rattle.std.proofs.Common.{◌≡◌, drop}
use Rattle.command_line.specs.Grants.{bytes_of, names}
use Rattle.command_line.proofs.grants.names.Given as goal

abbrev pub invariant-loop-pair : goal.invariant-loop-pair
invariant-loop-pair l = names l.authid (bytes_of l.pairs) ≡ names l.authid (bytes_of (drop l.pair-index l.pairs))
