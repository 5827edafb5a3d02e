use Rattle.std.proofs.Common.{◌≡◌, ◌≤◌, ℕ}
use Rattle.client_commands.specs.Notes.{noting}
use Rattle.client_commands.specs.Reconnecting.{PrintsOverAll, stage}
use Rattle.client_commands.proofs.reconnecting.resubscribe.Given as goal

abbrev pub invariant-connections : goal.invariant-connections
invariant-connections g l = record {
  connections : ℕ;
  prints :
      PrintsOverAll l.command connections (stage (g.P.Sink.seen l.fn.output).taken (noting (g.N.Sink.seen l.fn.notes)) l.command.count)
      (stage (g.P.Sink.seen l.output).taken (noting (g.N.Sink.seen l.notes)) l.listener.left);
  short : l.pause ≤ 60;
  failures : (g.P.Sink.seen l.output).failures ≡ (g.P.Sink.seen l.fn.output).failures;
}
