use Rattle.std.specs.Prelude.{◌≡◌, false}
use Rattle.std.specs.Vec.Iter.{drain_items}
use Rattle.realm_actor.specs.Rows.{Ascending, EachDue, EachGoes, EachHome, NoneRose}
use Rattle.realm_actor.proofs.delivery.offer_all.Given as goal

abbrev pub invariant-loop-conn : goal.invariant-loop-conn
invariant-loop-conn g l = record {
  up : Ascending l.rows;
  due : EachDue l.realm (drain_items l.conn-iterator) l.rows;
  goes : EachGoes l.initial.rows l.rows;
  kept : l.chronicle ≡ l.initial.chronicle;
  home : EachHome l.initial.chronicle.chronicle l.rows;
  none : l.pass.is_full ≡ false → NoneRose l.initial.rows l.rows;
}
