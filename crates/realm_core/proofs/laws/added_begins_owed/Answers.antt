use Rattle.realm_core.proofs.RealmLaws.{realm-laws}
use Rattle.realm_core.proofs.ItemOrigin.{takes-what-is-due}
use Rattle.realm_core.proofs.WorldInvariant.{sound-of, taken-begins-owed, subscribed-first}
use Rattle.realm_core.proofs.laws.added_begins_owed.Goals as goal

pub returns : goal.returns
returns c = record {
  added = λ w r. (sound-of w r).owing.begins;
  taken = λ w r. taken-begins-owed w (sound-of w r);
  due = λ w r. takes-what-is-due realm-laws.admitted realm-laws.subscribed w (sound-of w r).is_history (taken-begins-owed w (sound-of w r));
  subscribed_first = λ w r. subscribed-first realm-laws.follow w (sound-of w r);
}
