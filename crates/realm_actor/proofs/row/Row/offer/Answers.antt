use Rattle.std.proofs.Common.{ap}
use Rattle.std.specs.Prelude.{option_map}
use Rattle.realm_actor.proofs.row.Row.offer.Goals as goal

pub offer-requires-clause-home : goal.offer-requires-clause-home
offer-requires-clause-home g c = c.requires.home _ (ap (λ h. option_map (λ e. e.outbox) h) c.in-Some.is)
