use Rattle.std.proofs.Common.{◌≡◌}
use mathlib.Core.List.{IsPrefix}
use Rattle.realm_inbox.specs.EndViews.{received, capacity, inbox_of}
use Rattle.realm_inbox.specs.Unchanged.{IsSamePoster}
use Rattle.realm_inbox.proofs.ends.Inbox.drain_beside.Given as goal

abbrev pub invariant-loop : goal.invariant-loop
invariant-loop g l = IsPrefix (received l.initial.self) (received l.self) × ((inbox_of l.self ≡ inbox_of l.initial.self) × (capacity l.self ≡ capacity l.initial.self)) × IsSamePoster l.initial.poster l.poster
