use Rattle.std.proofs.Common.{◌≡◌, ◌∙◌, Err, ap, arith}
use Rattle.rawsocket.proofs.Lemmas.{then_steps}
use Rattle.session.proofs.PieceFaults.{piece_steps, piece_end, piece_cause}
use Rattle.session.proofs.opening.read_handshake.Goals as goal

pub returns-in-Err-clause-short : goal.returns-in-Err-clause-short
returns-in-Err-clause-short g c = λ decided. record {
  part = c.octets.octets.items;
  read = c.in-Err.ensures.kept ∙ c.octets.invariant.read;
  short = omega arith;
  is_end = piece_end c.in-Err.none c.from.result c.from.ensures decided;
}

pub returns-in-Err-clause-reads : goal.returns-in-Err-clause-reads
returns-in-Err-clause-reads g c = then_steps c.octets.invariant.steps (piece_steps c.in-Err.none c.from.result c.from.ensures c.in-Err.ensures.steps)

pub returns-in-Err-clause-cause : goal.returns-in-Err-clause-cause
returns-in-Err-clause-cause g c =
    piece_cause c.in-Err.none c.from.result (g.I.Source.seen c.read_piece.new.source).is_ended ⊥ (c.read_piece.new.turns ≡ 0) c.from.ensures (λ e. c.in-Err.ensures.ended (ap Err e)) (λ zero. zero) (then_steps c.octets.invariant.steps c.in-Err.ensures.steps)

pub returns-then-is_err-clause-reads : goal.returns-then-is_err-clause-reads
returns-then-is_err-clause-reads g c = then_steps c.octets.invariant.steps c.in-Ok.ensures.steps

pub returns-clause-reads : goal.returns-clause-reads
returns-clause-reads g c = c.octets.invariant.steps
