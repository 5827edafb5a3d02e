use Rattle.std.proofs.Common.{subst}
use Rattle.realm_core.specs.Delivery.{Delivers}
use Rattle.realm_core.proofs.RealmLaws.{realm-laws}
use Rattle.realm_core.proofs.WorldInvariant.{sound-of, delivers}
use Rattle.realm_core.proofs.world.World.shows.Goals as goal

pub returns : goal.returns
returns c = subst Delivers c.self.view_is (delivers realm-laws c.self.inside.exchange (sound-of c.self.inside.exchange c.self.invariant))
