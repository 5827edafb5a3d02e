use Rattle.std.proofs.Common.{◌≡◌, length}
use Rattle.threaded_server.specs.Realms.{realms_of}
use Rattle.threaded_server.specs.Stopping.{NoneStopped, stops_of}
use Rattle.threaded_server.proofs.opening.open.Given as goal

abbrev pub invariant-loop-name : goal.invariant-loop-name
invariant-loop-name g l = (l.connection_table.roster ≡ l.initial.connection_table.roster) × (length (realms_of l.connection_table.realms) ≡ l.name-index) × (NoneStopped (stops_of l.initial.connection_table.doors) → NoneStopped (stops_of l.connection_table.doors))
