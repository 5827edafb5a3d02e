use Rattle.std.proofs.Common.{◌≢◌, subst}
use Rattle.std.specs.Prelude.{MatchOption}
use Rattle.realm_actor.specs.Rows.{Each, StandsAt}
use Rattle.realm_actor.proofs.row_search.find.Goals as goal

pub returns : goal.returns
returns g c = subst (λ n. MatchOption c.find_number.result (Each (λ r. r.conn ≢ n) c.args.rows.now) (λ i. StandsAt c.args.rows.now n i)) c.value.ensures.number c.find_number.ensures
