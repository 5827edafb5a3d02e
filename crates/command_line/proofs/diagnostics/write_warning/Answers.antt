use Rattle.std.proofs.Common.{inl, inr, arith}
use Rattle.replay.proofs.FaultCauses.{done_or_used}
use Rattle.command_line.proofs.diagnostics.write_warning.Goals as goal

pub returns : goal.returns
returns g c = λ same.
    elim (done_or_used c.send.result c.send.ensures.written c.send.ensures.which c.send.ensures.steps same) [
      | inl written ↦ inl written
      | inr zero ↦ inr (omega (arith, zero, c.send.ensures.steps.calls, c.new-turns.ensures))
    ]
