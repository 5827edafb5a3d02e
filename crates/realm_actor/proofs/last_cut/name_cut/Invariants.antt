use Rattle.std.proofs.Common.{◌≡◌}
use Rattle.std.specs.Prelude.{vec_capacity}
use Rattle.realm_actor.proofs.MarkedRows.{Named}
use Rattle.realm_actor.proofs.last_cut.name_cut.Given as goal

abbrev pub invariant-loop-row : goal.invariant-loop-row
invariant-loop-row g l = record {
  named : Named l.initial.rows l.rows l.last_cut.items l.row-index;
  capacity : vec_capacity l.last_cut ≡ vec_capacity l.initial.last_cut;
}
