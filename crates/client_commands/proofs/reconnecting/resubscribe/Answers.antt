use Rattle.std.proofs.Common.{arith, suc, sym}
use Rattle.client_commands.specs.Notes.{noting}
use Rattle.client_commands.specs.Reconnecting.{stage}
use Rattle.client_commands.proofs.FaultLemmas.{passing-fine}
use Rattle.client_commands.proofs.reconnecting.resubscribe.Goals as goal

pub returns-in-Ok-clause-prints : goal.returns-in-Ok-clause-prints
returns-in-Ok-clause-prints g c = (
  suc c.connections.invariant.connections,
  c.subscribe.new.listener.left,
  (stage (g.P.Sink.seen c.connections.output).taken (noting (g.N.Sink.seen c.connections.notes)) c.connections.listener.left, c.connections.invariant.prints, c.in-Ok.ensures.prints),
  c.in-Ok.ensures.done,
)

pub returns-then-not-is_passing-clause-prints : goal.returns-then-not-is_passing-clause-prints
returns-then-not-is_passing-clause-prints g c = (
  suc c.connections.invariant.connections,
  c.subscribe.new.listener.left,
  (stage (g.P.Sink.seen c.connections.output).taken (noting (g.N.Sink.seen c.connections.notes)) c.connections.listener.left, c.connections.invariant.prints, c.in-Err.ensures.prints),
  tt,
)

pub connections-preserved : goal.connections-preserved
connections-preserved g c =
    let fine = passing-fine c.in-Err.fault (sym c.if-not-is_passing.ensures) in
    record {
      connections = suc c.connections.invariant.connections;
      prints = (stage (g.P.Sink.seen c.connections.output).taken (noting (g.N.Sink.seen c.connections.notes)) c.connections.listener.left, c.connections.invariant.prints, c.in-Err.ensures.prints);
      short = c.pause_behind-pause.ensures.few;
      failures = omega (arith, c.in-Err.ensures.lines, fine, c.connections.invariant.failures);
    }
