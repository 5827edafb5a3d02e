use Rattle.std.proofs.Common.{ap, sym, subst, arith, length, get_or, ◌<◌}
use Rattle.realm_actor.specs.Rows.{box_in}
use Rattle.realm_actor.specs.Cuts.{IsFull}
use Rattle.realm_actor.proofs.RowPlaces.{read, within}
use Rattle.realm_actor.proofs.FoundFull.{below_next}
use Rattle.realm_actor.proofs.cuts.least_full.Goals as goal

pub returns-then-is_full : goal.returns-then-is_full
returns-then-is_full g c =
    let i = c.loop-row.row-index in
    let d = c.row-item.result in
    let inside : i < length c.args.rows.now = omega (arith, c.loop-row-test.true) in
    record {
      place = i;
      row = get_or c.args.rows.now i d;
      stands = read c.args.rows.now i d inside;
      conn = ap (λ r. r.conn) (sym c.row-item.is);
      full = subst (λ r. IsFull (box_in r)) c.row-item.is (c.is_full.ensures.yes c.if-is_full.true);
      least = c.loop-row.invariant;
    }

pub loop-row-preserved : goal.loop-row-preserved
loop-row-preserved g c =
    let i = c.loop-row.row-index in
    let inside : i < length c.args.rows.now = omega (arith, c.loop-row-test.true) in
    below_next (λ r. IsFull (box_in r)) c.args.rows.now i c.row-item.result c.loop-row.invariant inside
    (λ p. c.is_full.ensures.no c.if-is_full.false (subst (λ r. IsFull (box_in r)) (sym c.row-item.is) p))

pub returns : goal.returns
returns g c = λ k r get full.
    let w = within c.args.rows.now k r get in
    c.loop-row.invariant k r (omega (arith, w, c.loop-row-test.false)) get full
