use Rattle.std.proofs.Common.{◌≡◌, ◌++◌, drop}
use Rattle.command_line.specs.Grants.{bytes_of}
use Rattle.command_line.specs.Served.{grant_lines}
use Rattle.command_line.proofs.serving.put_grants.Given as goal

abbrev pub invariant-loop-grant : goal.invariant-loop-grant
invariant-loop-grant l = l.fn.lines.items ++ grant_lines (bytes_of l.grants) ≡ l.lines.items ++ grant_lines (bytes_of (drop l.grant-index l.grants))
