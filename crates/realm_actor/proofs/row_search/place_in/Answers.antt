use Rattle.std.proofs.Common.{subst}
use Rattle.realm_actor.specs.Rows.{PartsAt}
use Rattle.realm_actor.proofs.row_search.place_in.Goals as goal

pub returns : goal.returns
returns g c = subst (λ n. PartsAt c.args.rows.now n c.place_by.result) c.value.ensures.number c.place_by.ensures
