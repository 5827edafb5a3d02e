use Rattle.std.proofs.Common.{arith}
use Rattle.json_to_msgpack.proofs.Pieces.{run_ends, run_goes_on}
use Rattle.json_to_msgpack.proofs.scan.plain_end.Goals as goal

pub returns-then-plain-lt-PIECE-clause-value : goal.returns-then-plain-lt-PIECE-clause-value
returns-then-plain-lt-PIECE-clause-value c =
    let run = run_ends c.args.octets.now c.pieces.at 16 c.plain_in-plain.result (omega arith) c.plain_in-plain.ensures c.if-plain-lt-PIECE.true in
    omega (arith, run, c.pieces.invariant.1)

pub pieces-preserved : goal.pieces-preserved
pieces-preserved c =
    let run = run_goes_on c.args.octets.now c.pieces.at 16 c.plain_in-plain.result (omega arith) c.plain_in-plain.ensures (omega arith) in
    (omega arith, omega (arith, run, c.pieces.invariant.1))
