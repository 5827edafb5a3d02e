use Rattle.std.proofs.Common.{◌≡◌, sym, ◌∙◌, subst, length}
use Rattle.realm_actor.specs.Handle.{EachUnmarked}
use Rattle.realm_actor.proofs.EntryLemmas.{taken_whole}
use Rattle.realm_actor.proofs.last_cut.name_all.Goals as goal

pub returns-clause-rows : goal.returns-clause-rows
returns-clause-rows g c =
    let each = subst (λ l. EachUnmarked l c.name_cut.new.rows) c.as_mut_slice-rows.ensures.value c.name_cut.ensures.rows in
    let whole : length c.name_cut.new.rows ≡ c.args.rows.now.len = each.0 ∙ sym c.args.rows.now.ok.0 in
    subst (λ l. EachUnmarked c.args.rows.now.items l) (sym (taken_whole c.args.rows.now.len c.name_cut.new.rows _ whole)) each
