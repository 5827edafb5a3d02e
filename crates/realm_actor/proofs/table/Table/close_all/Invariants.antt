use Rattle.std.proofs.Common.{◌≡◌}
use Rattle.std.specs.Prelude.{List, ℕ}
use Rattle.realm_actor.specs.Tables.{standing}
use Rattle.realm_actor.specs.Cuts.{NoneFull}
use Rattle.realm_actor.specs.Stop.{Closes, is_nil}
use Rattle.realm_actor.specs.Invariant.{IsSound, KeepsTable}
use Rattle.realm_actor.specs.Words.{◌⊕◌}
use Rattle.realm_actor.proofs.table.Table.close_all.Given as goal

abbrev pub invariant-loop-place : goal.invariant-loop-place
invariant-loop-place g l = record {
  closes : (drawn : List ℕ) × (lost : List ℕ) × Closes (standing l.initial.self) l.place drawn lost (standing l.self) × (g.W.IdSource.given l.words ≡ g.W.IdSource.given l.initial.words ⊕ drawn) × (l.all_closed ≡ is_nil lost);
  sound : IsSound l.self;
  none : NoneFull l.self.rows.items;
  keeps : KeepsTable l.initial.self l.self;
}
