use Rattle.std.proofs.Common.{inl, inr, arith}
use Rattle.replay.proofs.FaultCauses.{done_or_used}
use Rattle.command_line.proofs.diagnostics.report_failure.Goals as goal

pub returns-clause-lines : goal.returns-clause-lines
returns-clause-lines g c = λ same.
    elim (done_or_used c.write_failure.result c.write_failure.ensures.written c.write_failure.ensures.which c.write_failure.ensures.steps same) [
      | inl written ↦ inl written
      | inr zero ↦ inr (omega (arith, zero, c.write_failure.ensures.steps.calls, c.new-turns.ensures))
    ]

pub returns-clause-writes : goal.returns-clause-writes
returns-clause-writes g c = omega (arith, c.write_failure.ensures.steps.calls, c.new-turns.ensures)
