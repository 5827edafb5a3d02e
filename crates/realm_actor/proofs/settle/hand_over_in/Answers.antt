use Rattle.std.proofs.Common.{◌≡◌, sym, ◌∙◌, subst, length}
use Rattle.realm_actor.specs.Settle.{EachParted}
use Rattle.realm_actor.proofs.EntryLemmas.{taken_whole}
use Rattle.realm_actor.proofs.settle.hand_over_in.Goals as goal

pub returns-clause-rows : goal.returns-clause-rows
returns-clause-rows g c =
    let each = subst (λ l. EachParted c.args.realm.now l c.hand_over_ended.new.rows) c.as_mut_slice-rows.ensures.value c.hand_over_ended.ensures.rows in
    let whole : length c.hand_over_ended.new.rows ≡ c.args.rows.now.len = each.0 ∙ sym c.args.rows.now.ok.0 in
    subst (λ l. EachParted c.args.realm.now c.args.rows.now.items l) (sym (taken_whole c.args.rows.now.len c.hand_over_ended.new.rows _ whole)) each
