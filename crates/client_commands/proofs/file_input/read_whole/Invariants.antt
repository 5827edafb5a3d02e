use Rattle.rawsocket.specs.Steps.{Fine, Steps, read_meter}
use Rattle.client_commands.specs.WholeInput.{ReadsWhole}
use Rattle.client_commands.proofs.file_input.read_whole.Given as goal

-- what was read so far is kept, and no read failed
abbrev pub invariant-pieces : goal.invariant-pieces
invariant-pieces g l = record {
  reads : ReadsWhole (g.J.Source.seen l.fn.input).given (g.J.Source.seen l.input).given l.octets.items;
  steps : Steps (read_meter (g.J.Source.seen l.fn.input) 4294967296) (read_meter (g.J.Source.seen l.input) l.turns) Fine;
}

abbrev pub decreases-pieces : goal.decreases-pieces
decreases-pieces g l = l.turns
