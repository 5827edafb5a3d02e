use Rattle.std.proofs.Common.{inl, inr, arith}
use Rattle.replay.proofs.FaultCauses.{done_or_used}
use Rattle.command_line.proofs.diagnostics.report.Goals as goal

pub returns-clause-line : goal.returns-clause-line
returns-clause-line g c = λ same.
    elim (done_or_used c.write_fault.result c.write_fault.ensures.written c.write_fault.ensures.which c.write_fault.ensures.steps same) [
      | inl written ↦ inl written
      | inr zero ↦ inr (omega (arith, zero, c.write_fault.ensures.steps.calls, c.new-turns.ensures))
    ]

pub returns-clause-writes : goal.returns-clause-writes
returns-clause-writes g c = omega (arith, c.write_fault.ensures.steps.calls, c.new-turns.ensures)
