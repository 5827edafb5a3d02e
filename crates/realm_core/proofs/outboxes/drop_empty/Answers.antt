use Rattle.std.proofs.Common.{None}
use Rattle.realm_core.proofs.SessionQueueLemmas.{filled-all}
use Rattle.realm_core.proofs.outboxes.drop_empty.Goals as goal

pub returns-then-is_empty-clause-filled : goal.returns-then-is_empty-clause-filled
returns-then-is_empty-clause-filled c = filled-all c.args.outboxes.now c.remove.new.self c.args.conn None c.remove.ensures.updates.0 tt c.requires
