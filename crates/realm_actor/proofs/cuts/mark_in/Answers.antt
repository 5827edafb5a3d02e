use Rattle.std.proofs.Common.{◌≡◌, sym, ◌∙◌, subst, length}
use Rattle.realm_actor.specs.Tables.{EachMarked}
use Rattle.realm_actor.proofs.EntryLemmas.{taken_whole}
use Rattle.realm_actor.proofs.cuts.mark_in.Goals as goal

pub returns : goal.returns
returns g c =
    let each = subst (λ l. EachMarked c.args.conn l c.mark_row.new.rows) c.as_mut_slice-rows.ensures.value c.mark_row.ensures in
    let whole : length c.mark_row.new.rows ≡ c.args.rows.now.len = each.0 ∙ sym c.args.rows.now.ok.0 in
    subst (λ l. EachMarked c.args.conn c.args.rows.now.items l) (sym (taken_whole c.args.rows.now.len c.mark_row.new.rows _ whole)) each
