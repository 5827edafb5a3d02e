use Rattle.std.proofs.Common.{◌≡◌, drop}
use Rattle.client_commands.specs.Acts.{request_of}
use Rattle.client_commands.proofs.subscriptions.request_of.Given as goal

abbrev pub invariant-grants : goal.invariant-grants
invariant-grants l = request_of l.subscription l.one-items ≡ request_of l.subscription (drop l.one-index l.one-items)
