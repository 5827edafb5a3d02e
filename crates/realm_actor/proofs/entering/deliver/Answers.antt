use Rattle.std.proofs.Common.{◌≡◌, sym, ◌∙◌, subst, length}
use Rattle.realm_actor.specs.Rows.{EachGoes, EachHome, NoneRose}
use Rattle.realm_actor.proofs.Homes.{home_goes, home_ends}
use Rattle.realm_actor.specs.Tables.{EachEnds}
use Rattle.realm_actor.proofs.RowDelivery.{Ascending-goes}
use Rattle.realm_actor.proofs.EntryLemmas.{taken_whole, none_ends}
use Rattle.realm_actor.proofs.entering.deliver.Goals as goal

pub close_ended-requires : goal.close_ended-requires
close_ended-requires g c =
    let goes = subst (λ l. EachGoes l c.offer_all-is_full.new.rows) c.as_mut_slice-rows.ensures.value c.offer_all-is_full.ensures.goes in
    Ascending-goes c.args.rows.now.items c.offer_all-is_full.new.rows goes c.requires.ascending

pub returns-clause-rows : goal.returns-clause-rows
returns-clause-rows g c =
    let goes = subst (λ l. EachGoes l c.offer_all-is_full.new.rows) c.as_mut_slice-rows.ensures.value c.offer_all-is_full.ensures.goes in
    let whole : length c.close_ended.new.rows ≡ c.args.rows.now.len = c.close_ended.ensures.0 ∙ goes.0 ∙ sym c.args.rows.now.ok.0 in (
      c.offer_all-is_full.new.rows,
      goes,
      c.offer_all-is_full.ensures.due,
      subst (λ l. EachEnds c.args.conn c.args.is_live c.offer_all-is_full.new.rows l) (sym (taken_whole c.args.rows.now.len c.close_ended.new.rows _ whole)) c.close_ended.ensures,
    )

pub offer_all-is_full-requires-clause-home : goal.offer_all-is_full-requires-clause-home
offer_all-is_full-requires-clause-home g c = subst (λ l. EachHome c.args.chronicle.now.chronicle l) (sym c.as_mut_slice-rows.ensures.value) c.requires.home

pub returns-clause-home : goal.returns-clause-home
returns-clause-home g c =
    let own = c.args.chronicle.now.chronicle in
    let goes = subst (λ l. EachGoes l c.offer_all-is_full.new.rows) c.as_mut_slice-rows.ensures.value c.offer_all-is_full.ensures.goes in
    let whole : length c.close_ended.new.rows ≡ c.args.rows.now.len = c.close_ended.ensures.0 ∙ goes.0 ∙ sym c.args.rows.now.ok.0 in
    subst (λ l. EachHome own l) (sym (taken_whole c.args.rows.now.len c.close_ended.new.rows _ whole))
    (home_ends own c.args.conn c.args.is_live c.offer_all-is_full.new.rows c.close_ended.new.rows c.close_ended.ensures (home_goes own c.args.rows.now.items c.offer_all-is_full.new.rows goes c.requires.home))

pub returns-clause-none : goal.returns-clause-none
returns-clause-none g c = λ quiet.
    let is = c.as_mut_slice-rows.ensures.value in
    let goes = subst (λ l. EachGoes l c.offer_all-is_full.new.rows) is c.offer_all-is_full.ensures.goes in
    let none = subst (λ l. NoneRose l c.offer_all-is_full.new.rows) is (c.offer_all-is_full.ensures.none quiet) in
    let whole : length c.close_ended.new.rows ≡ c.args.rows.now.len = c.close_ended.ensures.0 ∙ goes.0 ∙ sym c.args.rows.now.ok.0 in
    subst (λ l. NoneRose c.args.rows.now.items l) (sym (taken_whole c.args.rows.now.len c.close_ended.new.rows _ whole))
    (none_ends c.args.conn c.args.is_live c.args.rows.now.items c.offer_all-is_full.new.rows c.close_ended.new.rows goes c.close_ended.ensures none)
