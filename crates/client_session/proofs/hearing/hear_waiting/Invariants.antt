use Rattle.std.proofs.Common.{length}
use Rattle.rawsocket.specs.Frames.{contents}
use Rattle.rawsocket.specs.Steps.{Fine, Steps, write_meter}
use Rattle.client_session.specs.Hearing.{PassesOver, stand}
use Rattle.client_session.proofs.hearing.hear_waiting.Given as goal

abbrev pub invariant-frames : goal.invariant-frames
invariant-frames g l = record {
  passes : PassesOver l.broker.limit (stand (contents l.fn.waiting.items) (g.O.Sink.seen l.fn.sink).taken) (stand (contents l.waiting.items) (g.O.Sink.seen l.sink).taken);
  writes : Steps (write_meter (g.O.Sink.seen l.fn.sink) l.fn.turns) (write_meter (g.O.Sink.seen l.sink) l.turns) Fine;
}

abbrev pub decreases-frames : goal.decreases-frames
decreases-frames g l = length (contents l.waiting.items)
