use Rattle.rawsocket.specs.Frames.{contents}
use Rattle.std.proofs.Common.{◌≡◌, sym, ap}
use Rattle.connection.specs.Reader.{read_told}
use Rattle.connection.specs.declared.reader.ReadEnd.TheVariants.{Ended, ActorGone}
use Rattle.connection.proofs.ReaderProgress.{departs_ends, departs_same, departs_as}
use Rattle.connection.proofs.WeightsCounted.{counts_then}
use Rattle.connection.proofs.reader.read_counted.Goals as goal

pub returns-clause-posted : goal.returns-clause-posted
returns-clause-posted g c =
    departs_ends c.args.opened.serializer (contents c.args.opened.early.items) c.args.opened.deframer.most c.args.opened.deframer.held c.read_up_to-end.result c.leave-end.result (g.I.Source.seen c.args.source.now).given (g.I.Source.seen c.read_up_to-end.new.source).given
    (g.P.Posting.posted c.args.poster.now) (g.P.Posting.posted c.read_up_to-end.new.poster) (g.P.Posting.posted c.leave-end.new.poster) c.read_up_to-end.ensures.posted c.leave-end.ensures.departs

pub returns-clause-ended : goal.returns-clause-ended
returns-clause-ended g c = λ is.
    c.read_up_to-end.ensures.ended (departs_as c.read_up_to-end.result c.leave-end.result Ended (g.P.Posting.posted c.read_up_to-end.new.poster) (g.P.Posting.posted c.leave-end.new.poster) c.leave-end.ensures.departs (λ (e : Ended ≡ ActorGone). cc) is)

pub returns-clause-reads : goal.returns-clause-reads
returns-clause-reads g c = record {
  told = read_told c.read_up_to-end.result;
  is_told = λ here. ap read_told (sym (departs_same c.read_up_to-end.result c.leave-end.result (g.P.Posting.posted c.read_up_to-end.new.poster) (g.P.Posting.posted c.leave-end.new.poster) c.leave-end.ensures.departs here));
  steps = c.read_up_to-end.ensures.reads;
}

pub returns-clause-counts : goal.returns-clause-counts
returns-clause-counts g c = counts_then c.args.opened.serializer (g.P.Posting.posted c.args.poster.now) (g.P.Posting.posted c.read_up_to-end.new.poster) (g.P.Posting.posted c.leave-end.new.poster) (g.P.Posting.weights c.args.poster.now) (g.P.Posting.weights c.read_up_to-end.new.poster) (g.P.Posting.weights c.leave-end.new.poster) c.read_up_to-end.ensures.counts (c.leave-end.ensures.counts c.args.opened.serializer)
