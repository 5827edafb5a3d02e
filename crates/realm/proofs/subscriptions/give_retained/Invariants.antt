use Rattle.std.proofs.Common.{◌≡◌, ◌++◌, ◌+◌, ◌≤◌, map, length, vec_len}
use Rattle.std.specs.Vec.{vec_capacity}
use Rattle.realm.specs.body.Outputs.{all_for}
use Rattle.realm.specs.body.Transitions.{retained_event}
use Rattle.realm.proofs.subscriptions.give_retained.Given as goal

abbrev pub invariant-loop-publication : goal.invariant-loop-publication
invariant-loop-publication l = record {
  items : l.given.items ++ all_for l.conn (map (retained_event l.subscription l.policy) l.publication-iterator.rest.items)
      ≡ l.fn.given.items ++ all_for l.conn (map (retained_event l.subscription l.policy) l.fn.publications.items);
  room : vec_len l.given + length l.publication-iterator.rest.items ≤ vec_capacity l.given;
}
