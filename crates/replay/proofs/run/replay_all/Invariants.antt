use Rattle.rawsocket.specs.Steps.{Fine, Steps, read_meter, write_meter}
use Rattle.replay.proofs.ProgressLemmas.{Midst}
use Rattle.replay.proofs.run.replay_all.Given as goal

abbrev pub invariant-pieces : goal.invariant-pieces
invariant-pieces g l = record {
  midst : Midst l.fn.told l.told (g.I.Source.seen l.fn.source).given (g.I.Source.seen l.source).given (g.O.Sink.seen l.fn.sink).taken (g.O.Sink.seen l.sink).taken l.reading;
  reads : Steps (read_meter (g.I.Source.seen l.fn.source) 4294967296) (read_meter (g.I.Source.seen l.source) l.reading) Fine;
  writes : Steps (write_meter (g.O.Sink.seen l.fn.sink) l.fn.writing) (write_meter (g.O.Sink.seen l.sink) l.writing) Fine;
}

abbrev pub decreases-pieces : goal.decreases-pieces
decreases-pieces g l = l.reading
