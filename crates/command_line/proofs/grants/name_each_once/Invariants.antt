use Rattle.std.proofs.Common.{◌≡◌, drop}
use Rattle.command_line.specs.Grants.{bytes_of, name_each_once}
use Rattle.command_line.proofs.grants.name_each_once.Given as goal

abbrev pub invariant-loop-i : goal.invariant-loop-i
invariant-loop-i l = name_each_once (bytes_of l.pairs) ≡ name_each_once (bytes_of (drop l.i l.pairs))
