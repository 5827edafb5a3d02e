use Rattle.std.proofs.Common.{◌≡◌, ◌-◌, refl, sym, ap, ◌∙◌, subst, take, Vec, arith}
use Rattle.std.specs.List.{slice_range}
use Rattle.std.specs.Vec.Iter.{drain_items}
use Rattle.std.proofs.Math.Seq.{take-length}
use Rattle.realm_actor.specs.Rows.{EachDue, EachHome}
use Rattle.realm_actor.proofs.Homes.{home_goes}
use Rattle.realm_actor.proofs.RowDelivery.{EachGoes-same, EachGoes-on, Ascending-goes, none_same, none_on}
use Rattle.realm_actor.proofs.delivery.offer_all.Goals as goal

-- a list from its begin to its end
whole : {X Z : Type 0} (v : Vec X Z) → slice_range v.items 0 v.len ≡ v.items
whole v = let from_begin : v.len - 0 ≡ v.len = omega arith in ap (λ n. take n v.items) (from_begin ∙ v.ok.0) ∙ take-length v.items

pub loop-conn-init : goal.loop-conn-init
loop-conn-init g c = record {
  up = c.requires.ascending;
  due = subst (λ l. EachDue c.args.realm.now l c.args.rows.now) (sym (ap drain_items c.into_iter-conn-iterator.ensures.into_iter_gives ∙ (c.drain-conn-items.ensures.rest ∙ whole c.args.given.now))) c.requires.due;
  goes = EachGoes-same c.args.rows.now;
  kept = refl;
  home = c.requires.home;
  none = λ _. none_same c.args.rows.now;
}

pub offer_one-pass-requires-clause-told : goal.offer_one-pass-requires-clause-told
offer_one-pass-requires-clause-told g c = ap (λ b. b.history) c.loop-conn.invariant.kept ∙ c.requires.told

pub offer_one-pass-requires-clause-home : goal.offer_one-pass-requires-clause-home
offer_one-pass-requires-clause-home g c = subst (λ own. EachHome own c.loop-conn.rows) (sym (ap (λ b. b.chronicle) c.loop-conn.invariant.kept)) c.loop-conn.invariant.home

pub offer_one-pass-requires-clause-due : goal.offer_one-pass-requires-clause-due
offer_one-pass-requires-clause-due g c =
    (drain_items c.next.new.self, subst (λ l. EachDue c.args.realm.now l c.loop-conn.rows) c.in-Some.ensures.steps.0 c.loop-conn.invariant.due)

pub loop-conn-preserved : goal.loop-conn-preserved
loop-conn-preserved g c =
    let i = c.loop-conn.invariant in
    let step = c.offer_one-pass.ensures in
    record {
      up = Ascending-goes c.loop-conn.rows c.offer_one-pass.new.rows step.goes i.up;
      due = step.due (drain_items c.next.new.self) (subst (λ l. EachDue c.args.realm.now l c.loop-conn.rows) c.in-Some.ensures.steps.0 i.due);
      goes = EachGoes-on c.args.rows.now c.loop-conn.rows c.offer_one-pass.new.rows i.goes step.goes;
      kept = step.kept ∙ i.kept;
      home = home_goes c.args.chronicle.now.chronicle c.loop-conn.rows c.offer_one-pass.new.rows step.goes i.home;
      none = λ quiet. let t = step.none quiet in none_on c.args.rows.now c.loop-conn.rows c.offer_one-pass.new.rows i.goes step.goes (i.none t.0) t.1;
    }

pub returns-clause-due : goal.returns-clause-due
returns-clause-due g c = subst (λ l. EachDue c.args.realm.now l c.loop-conn.rows) c.in-None.ensures.steps.0 c.loop-conn.invariant.due
