use Rattle.std.proofs.Common.{Some, ap, ◌∙◌, rules}
use Rattle.realm_core.specs.declared.outboxes.SessionQueue.{SessionQueue}
use Rattle.realm_core.specs.body.Outboxes.{items_in}
use Rattle.realm_core.proofs.SessionQueueLemmas.{put-items, filled-but, nothing-popped}
use Rattle.realm_core.proofs.outboxes.take_front.Goals as goal

pub returns-in-Some-clause-nothing : goal.returns-in-Some-clause-nothing
returns-in-Some-clause-nothing c =
    let w : SessionQueue = record { items = c.pop_front.new.self } in
    nothing-popped c.pop_front.result c.in-Some.outbox.now.items.items c.pop_front.new.self.items c.pop_front.ensures.items (λ same.
    put-items c.args.outboxes.now (c.get_mut.follows.lender w) c.args.conn (Some w) ((c.get_mut.follows.holds w).3 (search rules)).0 (same ∙ ap items_in c.in-Some.ensures.value))

pub returns-in-Some-clause-others : goal.returns-in-Some-clause-others
returns-in-Some-clause-others c =
    let w : SessionQueue = record { items = c.pop_front.new.self } in
    filled-but c.args.outboxes.now (c.get_mut.follows.lender w) c.args.conn (Some w) ((c.get_mut.follows.holds w).3 (search rules)).0 (λ d other. c.requires d)
