use Rattle.std.proofs.Common.{◌≡◌}
use Rattle.realm_inbox.specs.EndViews.{received, inbox_of}
use Rattle.realm_actor.proofs.run.wait_for_post.Given as goal

abbrev pub invariant-loop : goal.invariant-loop
invariant-loop g l = record {
  given : received l.inbox ≡ received l.initial.inbox;
  same : inbox_of l.inbox ≡ inbox_of l.initial.inbox;
}
