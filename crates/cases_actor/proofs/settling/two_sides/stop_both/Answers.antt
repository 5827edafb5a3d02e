use Rattle.cases_actor.proofs.SideLemmas.{goes_alike, goes_on, side_alike}
use Rattle.cases_actor.proofs.settling.two_sides.stop_both.Goals as goal

pub returns-clause-sides : goal.returns-clause-sides
returns-clause-sides g c =
    let was = c.args.desk.now in let on = c.handle-outcome.ensures in (
      side_alike c.keep_up.new.desk c.keep_up-2.new.desk c.keep_up.new.self c.keep_up-2.ensures.desk (c.keep_up.ensures.side was on c.requires.sides.0),
      c.keep_up-2.ensures.side was (goes_on was c.handle-outcome.new.self c.keep_up.new.desk on (goes_alike c.handle-outcome.new.self c.keep_up.new.desk c.keep_up.ensures.desk)) c.requires.sides.1,
    )
