use Rattle.std.proofs.Common.{ap, arith}
use Rattle.rawsocket.specs.Steps.{device_told}
use Rattle.rawsocket.proofs.Lemmas.{at_told}
use Rattle.replay.proofs.replay_input.ReplayInput.write_rest.Goals as goal

pub returns-in-Ok-clause-writes : goal.returns-in-Ok-clause-writes
returns-in-Ok-clause-writes g c = c.in-Ok.ensures.steps

pub returns-in-Err-WriteFault-clause-writes : goal.returns-in-Err-WriteFault-clause-writes
returns-in-Err-WriteFault-clause-writes g c = at_told (ap device_told c.in-Err-WriteFault.field-0-is) c.in-Err-WriteFault.ensures.steps

pub returns-in-Err-WriteFault-clause-cause : goal.returns-in-Err-WriteFault-clause-cause
returns-in-Err-WriteFault-clause-cause g c = let steps = at_told (ap device_told c.in-Err-WriteFault.field-0-is) c.in-Err-WriteFault.ensures.steps in omega (arith, steps.failures)
