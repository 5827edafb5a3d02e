use Rattle.std.proofs.Common.{append-nil, arith, sym}
use Rattle.rawsocket.proofs.Lemmas.{all_turns}
use Rattle.client_commands.proofs.file_input.read_whole.Goals as goal

pub pieces-init : goal.pieces-init
pieces-init g c = record {
  reads = record { read = rw c.requires.fresh (sym (append-nil (g.J.Source.seen c.args.input.now).given)); fits = rw c.requires.fresh (omega arith) };
  steps = all_turns c.new-turns.ensures;
}

pub read_piece-requires : goal.read_piece-requires
read_piece-requires g c = omega (arith, c.requires.wide, c.pieces.auto.buffer)
