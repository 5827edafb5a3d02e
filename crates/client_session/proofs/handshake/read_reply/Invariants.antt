use Rattle.std.proofs.Common.{◌≡◌, ◌≤◌, ◌++◌, length}
use Rattle.rawsocket.specs.Steps.{Fine, Steps, read_meter}
use Rattle.client_session.proofs.handshake.read_reply.Given as goal

abbrev pub invariant-octets : goal.invariant-octets
invariant-octets g l = record {
  read : (g.I.Source.seen l.source).given ≡ (g.I.Source.seen l.fn.source).given ++ l.octets.items;
  short : length l.octets.items ≤ 4;
  steps : Steps (read_meter (g.I.Source.seen l.fn.source) l.fn.turns) (read_meter (g.I.Source.seen l.source) l.turns) Fine;
}

abbrev pub decreases-octets : goal.decreases-octets
decreases-octets g l = l.turns
