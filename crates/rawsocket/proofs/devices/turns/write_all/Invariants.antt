use Rattle.std.proofs.Common.{length}
use Rattle.rawsocket.specs.Steps.{Fine, Steps, write_meter}
use Rattle.rawsocket.proofs.DeviceLemmas.{Written}
use Rattle.rawsocket.proofs.devices.turns.write_all.Given as goal

abbrev pub invariant-loop-rest : goal.invariant-loop-rest
invariant-loop-rest g l = record {
  written : Written (g.S.Sink.seen l.fn.sink).taken (g.S.Sink.seen l.sink).taken l.fn.octets l.rest;
  steps : Steps (write_meter (g.S.Sink.seen l.fn.sink) l.fn.turns) (write_meter (g.S.Sink.seen l.sink) l.turns) Fine;
}

abbrev pub decreases-loop-rest : goal.decreases-loop-rest
decreases-loop-rest g l = length l.rest
