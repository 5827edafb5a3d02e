use Rattle.std.proofs.Common.{◌≡◌, ◌++◌, length}
use Rattle.client_commands.proofs.noting.tell.Given as goal

abbrev pub invariant-loop-rest : goal.invariant-loop-rest
invariant-loop-rest g l = record {
  whole : (g.N.Sink.seen l.notes).taken ++ l.rest ≡ (g.N.Sink.seen l.fn.notes).taken ++ l.fn.note;
  failures : (g.N.Sink.seen l.notes).failures ≡ (g.N.Sink.seen l.fn.notes).failures;
}

abbrev pub decreases-loop-rest : goal.decreases-loop-rest
decreases-loop-rest g l = length l.rest
