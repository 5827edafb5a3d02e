use Rattle.std.proofs.Common.{subst, sym}
use Rattle.std.specs.Prelude.{Option}
use Rattle.crossbeam_queue.specs.Fifo.{Forks}
use Rattle.outbox_queue.specs.Slot.{Keeps, whose_drain}
use Rattle.outbox_queue.specs.declared.link.Whose.{Whose}
use Rattle.outbox_queue.proofs.SlotSteps.{forks}
use Rattle.outbox_queue.proofs.link.pick.Goals as goal

pub another-requires-clause-rule : goal.another-requires-clause-rule
another-requires-clause-rule g c =
    let F : Option Whose → Option Whose → Type 0 = λ v p. Forks (Keeps {T = g.row.T.Denot} {H = g.row.H.Denot}) c.args.pass.now.id v p p in
    subst (λ (y : Option Whose × Option Whose). F y.0 y.1) (λ i. (sym c.requires.none i, sym c.requires.whose i)) (forks c.args.pass.now.id (whose_drain c.args._end.now))
