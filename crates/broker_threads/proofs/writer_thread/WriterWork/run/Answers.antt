use Rattle.std.proofs.Common.{refl}
use Rattle.broker_threads.proofs.Writing.{wrote}
use Rattle.broker_threads.proofs.writer_thread.WriterWork.run.Goals as goal

pub returns : goal.returns
returns g c =
    let o = g.O.Sink in let told = c.write_watched-drain.ensures in
    wrote o.seen c.args.self _ c.write_watched-drain.result.0 c.write_watched-drain.new.sink c.of-left.ensures c.of.ensures refl told.written told.drain told.stopped told.writes told.whole told.full told.lost told.dropped
    c.into_newest-seen.ensures c.shows.ensures.newest c.shows.ensures.newest_of
