use Rattle.std.proofs.Common.{subst}
use Rattle.chronicle.specs.Recorded.{Reaches}
use Rattle.outbox_queue.specs.Tied.{history_of}
use Rattle.outbox_queue.proofs.OwedBeginnings.{tied_by}
use Rattle.outbox_queue.proofs.recorded.tie.Goals as goal

pub returns-clause-tied : goal.returns-clause-tied
returns-clause-tied g c =
    let o = g.H.Owed in let own = c.args.chronicle.now.history in
    tied_by o.begins o.owed o.owes_on own c.args.drain c.shows.ensures.owed (subst (λ seen. Reaches o.begins (history_of seen) own) c.into_seen.ensures c.check_seen.ensures.begins)
