use Rattle.std.proofs.Common.{ap, rules}
use Rattle.rawsocket.specs.Steps.{device_told}
use Rattle.rawsocket.proofs.Lemmas.{at_told, untold, whole}
use Rattle.wampd.proofs.print.Goals as goal

pub returns-in-Ok-clause-writes : goal.returns-in-Ok-clause-writes
returns-in-Ok-clause-writes g c = whole _ c.new-turns.ensures c.in-Ok.ensures.steps

pub returns-in-Err-WriteFault-clause-writes : goal.returns-in-Err-WriteFault-clause-writes
returns-in-Err-WriteFault-clause-writes g c = whole _ c.new-turns.ensures (at_told (ap device_told c.in-Err-WriteFault.field-0-is) c.in-Err-WriteFault.ensures.steps)

pub returns-in-Err-clause-writes : goal.returns-in-Err-clause-writes
returns-in-Err-clause-writes g c =
    let none = c.in-Err.ensures.which (search rules) in
    whole _ c.new-turns.ensures (untold (at_told (ap device_told none) c.in-Err.ensures.steps))
