use Rattle.std.proofs.Common.{Some, sym, ◌∙◌, rules}
use Rattle.realm_core.specs.declared.outboxes.SessionQueue.{SessionQueue}
use Rattle.realm_core.specs.body.Outboxes.{IsFilled}
use Rattle.realm_core.proofs.SessionQueueLemmas.{filled-all, one-more}
use Rattle.realm_core.proofs.outboxes.add.Goals as goal

pub returns-in-Some-clause-filled : goal.returns-in-Some-clause-filled
returns-in-Some-clause-filled c =
    let w : SessionQueue = record { items = c.push_back_reserved.new.self } in
    let one : IsFilled (Some w) = λ empty. one-more c.in-Some.outbox.now.items.items c.args.item (sym c.push_back_reserved.ensures.items ∙ empty) in
    filled-all c.args.outboxes.now (c.get_mut.follows.lender w) c.args.conn (Some w) ((c.get_mut.follows.holds w).3 (search rules)).0 one c.requires.others
