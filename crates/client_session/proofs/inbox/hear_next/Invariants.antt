use Rattle.std.proofs.Common.{◌≡◌, ◌+◌, [], length}
use Rattle.rawsocket.specs.Frames.{Reads, contents}
use Rattle.rawsocket.specs.Steps.{Fine, Steps, read_meter, write_meter}
use Rattle.client_session.specs.Hearing.{HearsNoneYet, client_takes, ear, terms}
use Rattle.client_session.proofs.inbox.hear_next.Given as goal

abbrev pub invariant-looks : goal.invariant-looks
invariant-looks g l = record {
  yet : HearsNoneYet (terms l.broker.serializer l.broker.limit) (ear (contents l.fn.inbox.waiting.items) l.fn.inbox.deframer.held (g.I.Source.seen l.fn.source).given (g.O.Sink.seen l.fn.sink).taken)
      (ear (contents l.inbox.waiting.items) l.inbox.deframer.held (g.I.Source.seen l.source).given (g.O.Sink.seen l.sink).taken);
  most : l.inbox.deframer.most ≡ client_takes;
  steady : Reads client_takes l.inbox.deframer.held [] l.inbox.deframer.held;
  reads : Steps (read_meter (g.I.Source.seen l.fn.source) l.fn.reading) (read_meter (g.I.Source.seen l.source) l.reading) Fine;
  writes : Steps (write_meter (g.O.Sink.seen l.fn.sink) l.fn.writing) (write_meter (g.O.Sink.seen l.sink) l.writing) Fine;
}

abbrev pub decreases-looks : goal.decreases-looks
decreases-looks g l = l.reading + length (contents l.inbox.waiting.items)
