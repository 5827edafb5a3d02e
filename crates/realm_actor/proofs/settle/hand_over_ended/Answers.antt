use Rattle.std.proofs.Common.{◌<◌, ◌≤◌, ◌∙◌, ap, refl, sym, subst, length, get_or, arith}
use Rattle.realm_actor.specs.Rows.{RowHome}
use Rattle.realm_actor.proofs.Parting.{parted_first, parted_next, parted_last}
use Rattle.realm_actor.proofs.RowPlaces.{read}
use Rattle.realm_actor.proofs.settle.hand_over_ended.Goals as goal

pub loop-row-init : goal.loop-row-init
loop-row-init g c = record { parted = parted_first c.args.realm.now c.args.rows.now; kept = refl }

pub hand_over-requires-clause-due : goal.hand_over-requires-clause-due
hand_over-requires-clause-due g c =
    let i = c.loop-row.row-index in let inside : i < length c.loop-row.rows = omega (arith, c.loop-row-test.true) in
    let here = c.loop-row.invariant.parted.todo i _ (omega arith) (read c.loop-row.rows i c.row-item.result inside) in
    c.requires.sound.in_step i _ here

pub hand_over-requires-clause-joined : goal.hand_over-requires-clause-joined
hand_over-requires-clause-joined g c =
    let i = c.loop-row.row-index in let inside : i < length c.loop-row.rows = omega (arith, c.loop-row-test.true) in
    let here = c.loop-row.invariant.parted.todo i _ (omega arith) (read c.loop-row.rows i c.row-item.result inside) in
    c.requires.sound.joined i _ here

pub hand_over-requires-clause-accounts : goal.hand_over-requires-clause-accounts
hand_over-requires-clause-accounts g c =
    let i = c.loop-row.row-index in let inside : i < length c.loop-row.rows = omega (arith, c.loop-row-test.true) in
    let here = c.loop-row.invariant.parted.todo i _ (omega arith) (read c.loop-row.rows i c.row-item.result inside) in
    c.requires.sound.accounted i _ here

pub hand_over-requires-clause-told : goal.hand_over-requires-clause-told
hand_over-requires-clause-told g c = ap (λ k. k.history) c.loop-row.invariant.kept ∙ c.requires.told

pub hand_over-requires-clause-home : goal.hand_over-requires-clause-home
hand_over-requires-clause-home g c =
    let i = c.loop-row.row-index in let inside : i < length c.loop-row.rows = omega (arith, c.loop-row-test.true) in
    let here = c.loop-row.invariant.parted.todo i _ (omega arith) (read c.loop-row.rows i c.row-item.result inside) in
    subst (λ own. RowHome own (get_or c.loop-row.rows i c.row-item.result)) (sym (ap (λ k. k.chronicle) c.loop-row.invariant.kept)) (c.requires.home i _ here)

pub loop-row-preserved : goal.loop-row-preserved
loop-row-preserved g c =
    let i = c.loop-row.row-index in let inside : i < length c.loop-row.rows = omega (arith, c.loop-row-test.true) in
    record {
      parted = parted_next c.args.realm.now c.args.rows.now c.loop-row.rows i c.row-item.result c.hand_over.new.row inside c.loop-row.invariant.parted c.hand_over.ensures.row;
      kept = c.hand_over.ensures.kept ∙ c.loop-row.invariant.kept;
    }

pub returns-clause-rows : goal.returns-clause-rows
returns-clause-rows g c =
    let past : length c.loop-row.rows ≤ c.loop-row.row-index = omega (arith, c.loop-row-test.false, c.loop-row.auto.rows) in
    parted_last c.args.realm.now c.args.rows.now c.loop-row.rows c.loop-row.row-index past c.loop-row.invariant.parted

pub returns-clause-kept : goal.returns-clause-kept
returns-clause-kept g c = c.loop-row.invariant.kept
