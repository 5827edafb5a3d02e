-- The laws of histories, as `realm` proves them.
use Rattle.realm.proofs.Lemmas.{owed-Begins, events-follow, events-while, admitted, due, given, in-order}
use Rattle.realm_core.proofs.WorldInvariant.{HistoryLaws}

pub realm-laws : HistoryLaws
realm-laws = record {
  follow = events-follow;
  admitted = admitted;
  subscribed = events-while;
  due = due;
  given = given;
  grows = owed-Begins;
  publishers = in-order;
}
