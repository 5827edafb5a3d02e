use Rattle.realm_core.proofs.RealmLaws.{realm-laws}
use Rattle.realm_core.proofs.WorldInvariant.{sound-of, exactly}
use Rattle.realm_core.proofs.laws.exactly_what_is_due.Goals as goal

pub returns : goal.returns
returns c = λ w r. exactly realm-laws w (sound-of w r)
