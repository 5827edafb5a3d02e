use Rattle.std.specs.Prelude.{◌<◌, [], length}
use Rattle.rawsocket.specs.Steps.{Fine, Steps, write_meter}
use Rattle.connection.specs.Watch.{AreTold, TellsSince}
use Rattle.connection.specs.Writer.{WritesSince, IsLater}
use Rattle.connection.specs.body.Writer.{Passes}
use Rattle.connection.proofs.writer.write_until.Given as goal

abbrev pub invariant-items : goal.invariant-items
invariant-items g l = record {
  done : WritesSince l.fn.drain.taken l.drain.taken (g.S.Sink.seen l.fn.sink).taken (g.S.Sink.seen l.sink).taken (Passes l.client [] l.gathered.frames.items);
  told : TellsSince l.fn.drain.taken l.drain.taken (g.W.Watch.told l.fn.watch) (g.W.Watch.told l.watch) AreTold;
  held : length l.gathered.frames.items < 65536;
  later : IsLater g.H.Owed.begins l.fn.drain l.drain;
  steps : Steps (write_meter (g.S.Sink.seen l.fn.sink) 4294967296) (write_meter (g.S.Sink.seen l.sink) l.gathered.turns) Fine;
}
