use Rattle.std.proofs.Common.{ap, ◌∙◌, take, Ok, Err, [], subst, arith}
use Rattle.connection.specs.Reader.{IsAdvance, start, taking}
use Rattle.std.proofs.lemmas.List.{length-take-le}
use Rattle.rawsocket.specs.Frames.{contents}
use Rattle.rawsocket.proofs.Lemmas.{all_turns, no_steps, then_steps, told_fine}
use Rattle.connection.proofs.ReaderProgress.{Onward-start, Onward-more, Onward-ends, Onward-stops, early_ends, piece_ended, piece_steps, posting_told}
use Rattle.connection.proofs.WeightsCounted.{counts_then, stream_back}
use Rattle.connection.proofs.reader.read_on.Goals as goal

pub pieces-init : goal.pieces-init
pieces-init g c = record {
  onward = Onward-start c.args.serializer (contents c.args.early.items) c.args.deframer.most c.args.deframer.held (g.I.Source.seen c.args.source.now).given (g.P.Posting.posted c.args.poster.now) (g.P.Posting.posted c.begin.new.poster) c.begin.new.deframer.held c.in_default.ensures.advances;
  counts = c.begin.ensures.counts;
  returned = omega (arith, c.in_default.ensures.returned);
  most = c.in_default.ensures.most;
  steps = all_turns c.new-turns.ensures;
}

pub pieces-preserved : goal.pieces-preserved
pieces-preserved g c = record {
  onward = Onward-more c.args.serializer (contents c.args.early.items) c.args.deframer.most c.args.deframer.held (g.I.Source.seen c.args.source.now).given (g.I.Source.seen c.pieces.source).given (g.I.Source.seen c.read_piece.new.source).given (take c.in-Ok.count c.read_piece.new.buffer)
      (g.P.Posting.posted c.args.poster.now) (g.P.Posting.posted c.pieces.poster) (g.P.Posting.posted c.advance.new.poster) c.pieces.deframer.held c.advance.new.deframer.held c.pieces.invariant.onward c.in-Ok.ensures.given
      (subst (λ most. IsAdvance (start c.args.serializer [] (record { most = most; held = c.pieces.deframer.held })) (taking (take c.in-Ok.count c.read_piece.new.buffer) c.advance.new.deframer.held) (g.P.Posting.posted c.pieces.poster) (g.P.Posting.posted c.advance.new.poster) (Ok tt)) c.pieces.invariant.most c.in_default-advance.ensures.advances);
  counts = counts_then c.args.serializer (g.P.Posting.posted c.args.poster.now) (g.P.Posting.posted c.pieces.poster) (g.P.Posting.posted c.advance.new.poster) (g.P.Posting.weights c.args.poster.now) (g.P.Posting.weights c.pieces.poster) (g.P.Posting.weights c.advance.new.poster) c.pieces.invariant.counts c.advance.ensures.counts;
  returned = omega (arith, c.in_default-advance.ensures.returned, c.pieces.invariant.returned);
  most = c.in_default-advance.ensures.most ∙ c.pieces.invariant.most;
  steps = then_steps c.pieces.invariant.steps c.in-Ok.ensures.steps;
}

pub returns-in-Err-clause-posted : goal.returns-in-Err-clause-posted
returns-in-Err-clause-posted g c =
    early_ends c.args.serializer (contents c.args.early.items) c.args.deframer.most c.args.deframer.held c.in-Err.end (g.I.Source.seen c.args.source.now).given c.begin.new.deframer.held (g.P.Posting.posted c.args.poster.now) (g.P.Posting.posted c.begin.new.poster) c.in-Err.ensures.advances

pub returns-in-Err-read_piece-clause-posted : goal.returns-in-Err-read_piece-clause-posted
returns-in-Err-read_piece-clause-posted g c =
    Onward-stops c.args.serializer (contents c.args.early.items) c.args.deframer.most c.args.deframer.held c.in-Err-read_piece.none c.from.result (g.I.Source.seen c.args.source.now).given (g.I.Source.seen c.pieces.source).given (g.I.Source.seen c.read_piece.new.source).given
    (g.P.Posting.posted c.args.poster.now) (g.P.Posting.posted c.pieces.poster) c.pieces.deframer.held c.from.ensures c.pieces.invariant.onward c.in-Err-read_piece.ensures.kept

pub returns-in-Err-advance-clause-posted : goal.returns-in-Err-advance-clause-posted
returns-in-Err-advance-clause-posted g c =
    Onward-ends c.args.serializer (contents c.args.early.items) c.args.deframer.most c.args.deframer.held c.in-Err-advance.end (g.I.Source.seen c.args.source.now).given (g.I.Source.seen c.pieces.source).given (g.I.Source.seen c.read_piece.new.source).given (take c.in-Ok.count c.read_piece.new.buffer)
    (g.P.Posting.posted c.args.poster.now) (g.P.Posting.posted c.pieces.poster) (g.P.Posting.posted c.advance.new.poster) c.pieces.deframer.held c.advance.new.deframer.held c.pieces.invariant.onward c.in-Ok.ensures.given
    (omega (arith, length-take-le c.in-Ok.count c.read_piece.new.buffer c.in-Ok.ensures.within, c.in-Ok.ensures.within, c.requires.piece, c.read_piece.auto.buffer, c.pieces.auto.buffer))
    (subst (λ most. IsAdvance (start c.args.serializer [] (record { most = most; held = c.pieces.deframer.held })) (taking (take c.in-Ok.count c.read_piece.new.buffer) c.advance.new.deframer.held) (g.P.Posting.posted c.pieces.poster) (g.P.Posting.posted c.advance.new.poster) (Err c.in-Err-advance.end)) c.pieces.invariant.most c.in-Err-advance.ensures.advances)

pub returns-in-Err-clause-reads : goal.returns-in-Err-clause-reads
returns-in-Err-clause-reads g c =
    let told = posting_told c.args.serializer (contents c.args.early.items) c.args.deframer [] c.begin.new.deframer.held (g.P.Posting.posted c.args.poster.now) (g.P.Posting.posted c.begin.new.poster) c.in-Err.end c.in-Err.ensures.advances in
    record { left = 4294967296; steps = told_fine told (no_steps _) }

pub returns-in-Err-read_piece-clause-reads : goal.returns-in-Err-read_piece-clause-reads
returns-in-Err-read_piece-clause-reads g c =
    record { left = c.read_piece.new.turns; steps = then_steps c.pieces.invariant.steps (piece_steps c.in-Err-read_piece.none c.from.result c.from.ensures c.in-Err-read_piece.ensures.steps) }

pub returns-in-Err-read_piece-clause-ended : goal.returns-in-Err-read_piece-clause-ended
returns-in-Err-read_piece-clause-ended g c = λ is. c.in-Err-read_piece.ensures.ended (ap Err (piece_ended c.in-Err-read_piece.none c.from.result c.from.ensures is))

pub returns-in-Err-advance-clause-reads : goal.returns-in-Err-advance-clause-reads
returns-in-Err-advance-clause-reads g c =
    let told = posting_told c.args.serializer [] c.pieces.deframer (take c.in-Ok.count c.read_piece.new.buffer) c.advance.new.deframer.held (g.P.Posting.posted c.pieces.poster) (g.P.Posting.posted c.advance.new.poster) c.in-Err-advance.end c.in-Err-advance.ensures.advances in
    record { left = c.read_piece.new.turns; steps = told_fine told (then_steps c.pieces.invariant.steps c.in-Ok.ensures.steps) }

pub returns-in-Err-read_piece-clause-returned : goal.returns-in-Err-read_piece-clause-returned
returns-in-Err-read_piece-clause-returned g c = omega (arith, c.pieces.invariant.returned, stream_back c.in-Err-read_piece.none c.from.result c.from.ensures)

pub returns-in-Err-advance-clause-counts : goal.returns-in-Err-advance-clause-counts
returns-in-Err-advance-clause-counts g c =
    counts_then c.args.serializer (g.P.Posting.posted c.args.poster.now) (g.P.Posting.posted c.pieces.poster) (g.P.Posting.posted c.advance.new.poster) (g.P.Posting.weights c.args.poster.now) (g.P.Posting.weights c.pieces.poster) (g.P.Posting.weights c.advance.new.poster) c.pieces.invariant.counts c.advance.ensures.counts
