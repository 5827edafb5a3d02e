use Rattle.std.proofs.Common.{◌≡◌}
use mathlib.Core.List.{IsPrefix}
use Rattle.realm_inbox.specs.EndViews.{inbox_of, received}
use Rattle.broker_threads.proofs.actor_thread.turn_away_rest.Given as goal

abbrev pub invariant-loop : goal.invariant-loop
invariant-loop g l = IsPrefix (received l.initial.inbox) (received l.inbox) × (inbox_of l.inbox ≡ inbox_of l.initial.inbox)
