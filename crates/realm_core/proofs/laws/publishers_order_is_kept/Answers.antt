use Rattle.realm_core.proofs.RealmLaws.{realm-laws}
use Rattle.realm_core.proofs.WorldInvariant.{sound-of, in-publishers-order}
use Rattle.realm_core.proofs.laws.publishers_order_is_kept.Goals as goal

pub returns : goal.returns
returns c = λ w r. in-publishers-order realm-laws w (sound-of w r)
