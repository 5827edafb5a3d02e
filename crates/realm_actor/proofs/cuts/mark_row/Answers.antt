use Rattle.std.proofs.Common.{refl, ap, ◌∙◌}
use Rattle.realm_actor.proofs.RowDelivery.{row_at}
use Rattle.realm_actor.proofs.TableInvariant.{marked_nowhere, marked_here}
use Rattle.realm_actor.proofs.cuts.mark_row.Goals as goal

pub returns-in_default : goal.returns-in_default
returns-in_default g c = marked_nowhere c.args.conn c.args.rows.now c.in_default.ensures

pub returns : goal.returns
returns g c =
    let s = c.in-Some.ensures in
    let row = row_at c.args.rows.now c.in-Some.place c.index-rows-place.result s.1 s.0 s.2 in
    marked_here c.args.conn c.args.rows.now c.in-Some.place _ _ c.requires row.0 (ap (λ x. x.conn) row.1 ∙ s.3) refl refl refl refl refl
