use Rattle.std.proofs.Common.{rules}
use Rattle.rawsocket.proofs.StepsLemmas.{no_turn, read_in_turn}
use Rattle.rawsocket.proofs.devices.turns.read_turn.Goals as goal

pub returns-then-not-take : goal.returns-then-not-take
returns-then-not-take g c =
    let none = c.take.ensures.none c.if-not-take.true in record {
      within = tt;
      given = tt;
      left = search rules;
      end = tt;
      kept = search rules;
      goes_on = search rules;
      turn = tt;
      steps = no_turn _ _ _ c.args.turns.now c.take.new.self none.0 none.1;
      which = search rules;
    }

pub returns : goal.returns
returns g c = read_in_turn _ _ _ _ _ c.read_some.result c.read_some.ensures (c.take.ensures.taken c.if-not-take.false)
