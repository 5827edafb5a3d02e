use Rattle.std.proofs.Common.{◌<◌, ◌≤◌, ◌+◌, ◌∙◌, sym, subst, length, set, arith}
use Rattle.realm_actor.proofs.MarkedRows.{Named, named_next, named_last}
use Rattle.realm_actor.proofs.last_cut.name_cut.Goals as goal

pub loop-row-preserved : goal.loop-row-preserved
loop-row-preserved g c =
    let i = c.loop-row.row-index in
    let inside : i < length c.loop-row.rows = omega (arith, c.loop-row-test.true) in
    let next = named_next c.args.rows.now c.loop-row.rows c.loop-row.last_cut.items i c.row-item.result c.name_one.new.row inside c.loop-row.invariant.named c.name_one.ensures.row in
    record {
      named = subst (λ l. Named c.args.rows.now (set c.loop-row.rows i c.name_one.new.row) l (i + 1)) (sym c.name_one.ensures.named) next;
      capacity = c.name_one.ensures.capacity ∙ c.loop-row.invariant.capacity;
    }

pub returns-clause-rows : goal.returns-clause-rows
returns-clause-rows g c =
    let past : length c.loop-row.rows ≤ c.loop-row.row-index = omega (arith, c.loop-row-test.false) in
    (named_last c.args.rows.now c.loop-row.rows c.loop-row.last_cut.items c.loop-row.row-index past c.loop-row.invariant.named).1
