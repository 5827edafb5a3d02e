use Rattle.std.proofs.Common.{List, Some, sym, ap, ◌∙◌}
use Rattle.subscription_index.specs.Index.{Row, Held, IsIndex}
use Rattle.subscription_index.proofs.IndexLemmas.{left_over}
use Rattle.subscription_index.proofs.RowUpdates.{key_held, without_absent}
use Rattle.subscription_index.proofs.index.Index.release.Goals as goal

pub invariant_of-self : goal.invariant_of-self
invariant_of-self c =
    let is : IsIndex record { rows = c.end.new.rows.entries; opened = c.self.inside.opened } =
    rw c.end.ensures.rows (left_over (record { rows = c.self.inside.rows.entries; opened = c.self.inside.opened }) c.args.conn (Some c.args.number) c.self.invariant.0) in
    (is, c.end.ensures.names, c.end.ensures.shared)

pub returns-clause-index : goal.returns-clause-index
returns-clause-index c =
    rw c.end.ensures.rows (left_over (record { rows = c.self.inside.rows.entries; opened = c.self.inside.opened }) c.args.conn (Some c.args.number) c.self.invariant.0)

pub returns-clause-unchanged : goal.returns-clause-unchanged
returns-clause-unchanged c = λ e.
    let rows = c.self.inside.rows.entries in
    let free = key_held rows c.args.conn c.args.number ∙ sym c.end.ensures.held ∙ e in
    let held : List Row → Held = λ rs. record { rows = rs; opened = c.self.inside.opened } in
    ap held (c.end.ensures.rows ∙ without_absent rows c.args.conn c.args.number free) ∙ c.self.view_is
