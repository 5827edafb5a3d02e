use Rattle.std.specs.Prelude.{Some}
use Rattle.outbox_queue.specs.Slot.{whose_drain}
use Rattle.outbox_queue.proofs.link.EndsLink.new.Given as goal

abbrev pub ghosts-pick : goal.ghosts-pick
ghosts-pick g a = record { whose = Some (whose_drain a._end.now) }
