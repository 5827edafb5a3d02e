use Rattle.std.proofs.Common.{◌≡◌}
use Rattle.realm_inbox.specs.EndViews.{received, inbox_of}
use Rattle.realm_actor.proofs.RunLemmas.{Progress}
use Rattle.realm_actor.proofs.actor.Actor.run_on.Given as goal

abbrev pub invariant-loop : goal.invariant-loop
invariant-loop g l = record {
  progress : Progress l.fn.self l.self (received l.initial.inbox) (received l.inbox);
  same : inbox_of l.inbox ≡ inbox_of l.initial.inbox;
  chronicle : l.self.chronicle ≡ l.fn.self.chronicle;
}
