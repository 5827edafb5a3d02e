use Rattle.std.proofs.Common.{rules, ap}
use Rattle.rawsocket.specs.Steps.{device_told}
use Rattle.rawsocket.proofs.StepsLemmas.{at_told}
use Rattle.rawsocket.proofs.devices.turns.read_piece.Goals as goal

pub returns-in-Ok-eq0 : goal.returns-in-Ok-eq0
returns-in-Ok-eq0 g c = record {
  within = tt;
  some = tt;
  given = tt;
  kept = search rules;
  ended = search rules;
  turn = tt;
  steps = c.in-Ok-eq0.ensures.steps;
}

pub returns-in-Ok : goal.returns-in-Ok
returns-in-Ok g c = record {
  within = c.in-Ok.ensures.within;
  some = search rules;
  given = c.in-Ok.ensures.given;
  kept = tt;
  ended = search rules;
  turn = c.in-Ok.ensures.turn;
  steps = c.in-Ok.ensures.steps;
}

pub returns-in-Err-ReadFault : goal.returns-in-Err-ReadFault
returns-in-Err-ReadFault g c = record {
  within = tt;
  some = tt;
  given = tt;
  kept = search rules;
  ended = search rules;
  turn = tt;
  steps = at_told (ap device_told c.in-Err-ReadFault.field-0-is) c.in-Err-ReadFault.ensures.steps;
}
