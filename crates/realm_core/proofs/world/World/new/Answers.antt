use Rattle.std.proofs.Common.{[]}
use Rattle.realm.specs.Grants.{pairs_of}
use Rattle.realm_core.proofs.world.World.new.Goals as goal

pub invariant_of-result : goal.invariant_of-result
invariant_of-result c = record {
  grants = pairs_of c.args.config.grants.items;
  inbox_cap = c.args.inbox_cap;
  outbox_cap = c.args.outbox_cap;
  steps = [];
  reaches = c.in_ok-exchange.ensures;
}
