use Rattle.std.proofs.Common.{◌≡◌}
use Rattle.crossbeam_channel.specs.Claims.{view, IsSeatAt}
use Rattle.crossbeam_channel.specs.Ends.{sends_on}
use Rattle.realm_inbox.proofs.bells.send_quietly.Given as goal

abbrev pub invariant-loop : goal.invariant-loop
invariant-loop g l = IsSeatAt (sends_on l.sender) l.pass × (l.pass.id ≡ l.initial.pass.id) × (view l.pass ≡ view l.initial.pass) × (l.message ≡ l.initial.message)
