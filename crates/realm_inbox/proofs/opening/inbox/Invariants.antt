use Rattle.std.specs.Prelude.{None}
use Rattle.realm_inbox.proofs.opening.inbox.Given as goal

abbrev pub ghost-make : goal.ghost-make
ghost-make g a = None
