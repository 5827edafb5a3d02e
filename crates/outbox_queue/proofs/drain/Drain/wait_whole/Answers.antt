use Rattle.std.proofs.Common.{ap, ◌∙◌, sym}
use Rattle.std.specs.Prelude.{is_some}
use Rattle.outbox_queue.specs.Outbox.{TakesOne}
use Rattle.outbox_queue.proofs.ComingOver.{ends_as, ends_in, stops}
use Rattle.outbox_queue.proofs.drain.Drain.wait_whole.Goals as goal

pub ending-requires : goal.ending-requires
ending-requires g c =
    let o = g.H.Owed in let d = c.loop.self in let e = c.next-in-loop.new.self in let found = c.in-Empty.ensures in
    stops o.owed o.is_over o.was_cut o.is_of d e found.0 found.1 (ap (λ a. is_some a.last) (sym c.self-in-loop.view_is) ∙ sym c.has_come.ensures ∙ c.if-has_come.true)

pub returns-then-has_come : goal.returns-then-has_come
returns-then-has_come g c =
    let o = g.H.Owed in let d = c.loop.self in let e = c.next-in-loop.new.self in
    ends_as o.owed o.is_over o.was_cut o.is_of c.args.self.now e c.ending.result _ (ends_in c.args.self.now d e c.loop.invariant.1 c.loop.invariant.2 c.in-Empty.ensures.0) c.ending.ensures
