use Rattle.std.proofs.Common.{◌≡◌, ◌≤◌, map, not, take, length, vec_len}
use Rattle.std.specs.Vec.{vec_capacity}
use Rattle.subscription_index.specs.body.Receivers.{is_number, receiver_by}
use Rattle.subscription_index.proofs.shares.receivers_in.Given as goal

abbrev pub invariant-loop-conn : goal.invariant-loop-conn
invariant-loop-conn l = record {
  items : l.found.items ≡ map (receiver_by (λ n. not (is_number l.exact n))) (take l.conn-index l.pairs);
  count : vec_len l.found ≡ l.conn-index;
  room : length l.pairs ≤ vec_capacity l.found;
}
