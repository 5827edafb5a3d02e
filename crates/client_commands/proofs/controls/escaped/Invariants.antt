use Rattle.std.proofs.Common.{◌≡◌, ◌++◌, drop}
use Rattle.client_commands.specs.Controls.{shown, shown_from}
use Rattle.client_commands.proofs.controls.escaped.Given as goal

abbrev pub invariant-octets : goal.invariant-octets
invariant-octets l = shown l.text ≡ l.out.items ++ shown_from l.is_behind (drop l.octet-index l.text)
