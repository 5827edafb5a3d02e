use Rattle.std.proofs.Common.{ap, sym, ◌∙◌, is_some}
use Rattle.realm_actor.proofs.RowRemoval.{holds_at}
use Rattle.realm_actor.proofs.RowDelivery.{row_at}
use Rattle.realm_actor.specs.Rows.{box_in}
use Rattle.realm_actor.proofs.settle.holds.Goals as goal
use Rattle.realm_actor.proofs.LastCutLemmas.{holds_nowhere}

pub returns-in_default : goal.returns-in_default
returns-in_default g c = sym (ap is_some (holds_nowhere c.args.rows.now c.args.conn c.in_default.ensures))

pub returns : goal.returns
returns g c =
    let s = c.in-Some.ensures in
    let row = row_at c.args.rows.now c.in-Some.place c.index-rows-place.result s.1 s.0 s.2 in
    c.is_held.ensures ∙ ap (λ r. is_some (box_in r)) c.index-rows-place.is ∙ ap is_some (sym (holds_at c.args.rows.now c.args.conn c.in-Some.place _ c.requires row.0 (ap (λ x. x.conn) row.1 ∙ s.3)))
