use Rattle.std.proofs.Common.{ap, ◌∙◌}
use Rattle.realm_actor.proofs.RowDelivery.{row_at}
use Rattle.realm_actor.proofs.EntryLemmas.{ends_live, ends_nowhere, ends_here}
use Rattle.realm_actor.proofs.entering.close_ended.Goals as goal

pub returns-then-is_live : goal.returns-then-is_live
returns-then-is_live g c = ends_live c.args.conn c.args.is_live c.args.rows.now c.if-is_live.true

pub returns-in_default : goal.returns-in_default
returns-in_default g c = ends_nowhere c.args.conn c.args.is_live c.args.rows.now c.in_default.ensures

pub returns : goal.returns
returns g c =
    let s = c.in-Some.ensures in
    let row = row_at c.args.rows.now c.in-Some.place c.index-rows-place.result s.1 s.0 s.2 in
    ends_here c.args.conn c.args.is_live c.args.rows.now c.in-Some.place _ c.close.new.self c.if-is_live.false c.requires row.0 (ap (λ x. x.conn) row.1 ∙ s.3) c.close.ensures.conn c.close.ensures.is_cut c.close.ensures.is_lost c.close.ensures.was_lost c.close.ensures.outbox
