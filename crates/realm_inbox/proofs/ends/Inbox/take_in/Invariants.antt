use Rattle.std.proofs.Common.{◌≡◌}
use Rattle.realm_inbox.specs.EndViews.{received, capacity, inbox_of}
use Rattle.realm_inbox.proofs.ends.Inbox.take_in.Given as goal

abbrev pub invariant-loop : goal.invariant-loop
invariant-loop g l = (received l.self ≡ received l.initial.self) × (inbox_of l.self ≡ inbox_of l.initial.self) × (capacity l.self ≡ capacity l.initial.self)
