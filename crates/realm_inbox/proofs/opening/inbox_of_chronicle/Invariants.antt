use Rattle.std.specs.Prelude.{option_map}
use Rattle.realm_inbox.proofs.opening.inbox_of_chronicle.Given as goal

abbrev pub ghost-make : goal.ghost-make
ghost-make g a = option_map (λ c. c.now.chronicle) a.chronicle
