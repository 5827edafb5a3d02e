use Rattle.std.proofs.Common.{subst}
use Rattle.realm_actor.specs.Rows.{StandsAt}
use Rattle.realm_actor.proofs.row_search.find_by_seat.Goals as goal

pub returns-in-Some : goal.returns-in-Some
returns-in-Some g c = subst (λ n. StandsAt c.args.rows.now n c.in-Some.place) c.value.ensures.number c.in-Some.ensures
