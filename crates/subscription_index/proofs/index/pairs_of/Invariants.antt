use Rattle.std.proofs.Common.{◌≡◌, ◌≤◌, take, length, vec_len}
use Rattle.std.specs.Vec.{vec_capacity}
use Rattle.subscription_index.specs.body.Receivers.{keys_of}
use Rattle.subscription_index.proofs.index.pairs_of.Given as goal

abbrev pub invariant-loop-place : goal.invariant-loop-place
invariant-loop-place l = record {
  items : l.pairs.items ≡ keys_of (take l.place l.receivers);
  count : vec_len l.pairs ≡ l.place;
  room : length l.receivers ≤ vec_capacity l.pairs;
}
