use Rattle.std.proofs.Common.{◌≡◌, ◌≤◌}
use Rattle.outbox_queue.proofs.drain.Drain.wait_whole.Given as goal

abbrev pub invariant-loop : goal.invariant-loop
invariant-loop g l =
    ((goal.iterator-loop g).can_next l.iterator' × (goal.iterator-loop g).is_finite l.iterator')
    × (l.self ≡ record l.initial.self { empty_finds = l.self.empty_finds; last = l.self.last })
    × (l.initial.self.empty_finds ≤ l.self.empty_finds)
