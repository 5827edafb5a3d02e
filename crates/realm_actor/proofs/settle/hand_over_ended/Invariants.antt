use Rattle.std.proofs.Common.{◌≡◌}
use Rattle.realm_actor.proofs.Parting.{PartedTo}
use Rattle.realm_actor.proofs.settle.hand_over_ended.Given as goal

abbrev pub invariant-loop-row : goal.invariant-loop-row
invariant-loop-row g l = record {
  parted : PartedTo l.realm l.fn.rows l.rows l.row-index;
  kept : l.chronicle ≡ l.fn.chronicle;
}
