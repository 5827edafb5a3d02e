use Rattle.std.proofs.Common.{◌≡◌, ◌+◌, ◌≤◌, take, length, vec_len}
use Rattle.std.specs.Vec.{vec_capacity}
use Rattle.realm.specs.body.Outputs.{events_to}
use Rattle.realm.proofs.events.events_without_lists.Given as goal

abbrev pub invariant-loop-place : goal.invariant-loop-place
invariant-loop-place l = record {
  items : l.given.items ≡ events_to l._sessions l.made (take l.place l.receivers);
  count : vec_len l.given ≤ l.place;
  room : length l.receivers + 1 ≤ vec_capacity l.given;
}
