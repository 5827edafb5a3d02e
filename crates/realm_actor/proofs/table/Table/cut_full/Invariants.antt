use Rattle.std.proofs.Common.{◌≡◌}
use Rattle.std.specs.Prelude.{List, ℕ}
use Rattle.realm_actor.specs.Tables.{standing}
use Rattle.realm_actor.specs.Cuts.{Cuts}
use Rattle.realm_actor.specs.Invariant.{IsSound, KeepsTable}
use Rattle.realm_actor.specs.Words.{◌⊕◌}
use Rattle.realm_actor.proofs.table.Table.cut_full.Given as goal

abbrev pub invariant-loop : goal.invariant-loop
invariant-loop g l =
    ((goal.iterator-loop g).can_next l.iterator' × (goal.iterator-loop g).is_finite l.iterator')
    × ((drawn : List ℕ) × Cuts (standing l.initial.self) drawn (standing l.self) × (g.W.IdSource.given l.words ≡ g.W.IdSource.given l.initial.words ⊕ drawn))
    × IsSound l.self
    × KeepsTable l.initial.self l.self
