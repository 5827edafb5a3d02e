use Rattle.std.proofs.Common.{sym, ap}
use Rattle.std.proofs.lemmas.Result.{err_from_is_err_and}
use Rattle.rawsocket.specs.Steps.{device_told}
use Rattle.rawsocket.proofs.Lemmas.{at_told, then_steps, grown_further, grown_within}
use Rattle.command_line.specs.Commands.{fault_line}
use Rattle.command_line.proofs.diagnostics.write_failure.Goals as goal

pub returns-in_err-write_fault-clause-begun : goal.returns-in_err-write_fault-clause-begun
returns-in_err-write_fault-clause-begun g c = grown_within _ _ (fault_line c.args.fault.now) _ c.write_fault.ensures.begun

pub returns-clause-begun : goal.returns-clause-begun
returns-clause-begun g c = grown_further _ (g.S.Sink.seen c.write_fault.new.sink).taken _ (fault_line c.args.fault.now) c.args.more.now c.in_ok-write_fault.ensures.written c.send.ensures.begun

pub returns-in_err-write_fault-clause-steps : goal.returns-in_err-write_fault-clause-steps
returns-in_err-write_fault-clause-steps g c =
    let p = err_from_is_err_and c.from_residual.result c.from_residual.ensures.1 in
    rw p.1 (at_told (ap device_told (sym p.2)) c.in_err-write_fault.ensures.steps)

pub returns-clause-steps : goal.returns-clause-steps
returns-clause-steps g c = then_steps c.in_ok-write_fault.ensures.steps c.send.ensures.steps
