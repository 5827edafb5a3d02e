use Rattle.std.proofs.Common.{arith, refl}
use Rattle.realm_actor.proofs.RowPlaces.{stands, stands_not, within}
use Rattle.realm_actor.proofs.row_search.is_at.Goals as goal

pub returns-then-place-rows-clause-yes : goal.returns-then-place-rows-clause-yes
returns-then-place-rows-clause-yes g c = λ e. stands c.args.rows.now c.args.place c.args.number c.value.result c.args.number c.index-rows-place.result c.if-place-rows.true c.value.ensures.number refl e

pub returns-then-place-rows-clause-no : goal.returns-then-place-rows-clause-no
returns-then-place-rows-clause-no g c = λ e. stands_not c.args.rows.now c.args.place c.args.number c.value.result c.args.number c.index-rows-place.result c.if-place-rows.true c.value.ensures.number refl e

pub returns-else-place-rows-clause-no : goal.returns-else-place-rows-clause-no
returns-else-place-rows-clause-no g c = λ e r get own. let h = within c.args.rows.now c.args.place r get in let n = c.if-place-rows.false in omega (arith, h, n)
