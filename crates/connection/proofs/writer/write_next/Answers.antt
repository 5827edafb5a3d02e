use Rattle.connection.proofs.WatchProgress.{ends_untold, one_untold}
use Rattle.connection.proofs.WriterProgress.{ends_between, one_breaks}
use Rattle.connection.specs.body.Writer.{output}
use Rattle.connection.proofs.writer.write_next.Goals as goal

pub returns-in-Err-clause-ended : goal.returns-in-Err-clause-ended
returns-in-Err-clause-ended g c =
    ends_between c.args.client c.in-Err.end c.args.drain.now.taken c.next_item.new.drain.taken (g.S.Sink.seen c.args.sink.now).taken (g.S.Sink.seen c.next_item.new.sink).taken c.args.gathered.now.frames.items
    c.in-Err.ensures.none c.requires.held c.in-Err.ensures.ended

pub returns-in-Err-clause-told_all : goal.returns-in-Err-clause-told_all
returns-in-Err-clause-told_all g c =
    ends_untold c.in-Err.end c.args.drain.now.taken c.next_item.new.drain.taken (g.W.Watch.told c.args.watch.now) (output (g.S.Sink.seen c.args.sink.now).taken c.args.gathered.now.frames.items)
    (g.S.Sink.seen c.next_item.new.sink).taken c.in-Err.ensures.none c.in-Err.ensures.ended

pub returns-in-Err-add_frame-clause-ended : goal.returns-in-Err-add_frame-clause-ended
returns-in-Err-add_frame-clause-ended g c =
    one_breaks c.args.client c.in-Err-add_frame.end c.in-Ok.item c.args.drain.now.taken c.next_item.new.drain.taken (g.S.Sink.seen c.args.sink.now).taken (g.S.Sink.seen c.next_item.new.sink).taken
    (g.S.Sink.seen c.add_frame.new.sink).taken c.args.gathered.now.frames.items c.next_item.new.gathered.frames.items c.in-Ok.ensures.took c.in-Ok.ensures.held c.in-Err-add_frame.ensures.ended

pub returns-in-Err-add_frame-clause-told_all : goal.returns-in-Err-add_frame-clause-told_all
returns-in-Err-add_frame-clause-told_all g c =
    one_untold c.in-Err-add_frame.end c.in-Ok.item c.args.drain.now.taken c.next_item.new.drain.taken (g.W.Watch.told c.args.watch.now) (g.W.Watch.told c.takes.new.self) (g.W.Watch.told c.add_frame.new.watch)
    c.in-Ok.ensures.took c.takes.ensures c.in-Err-add_frame.ensures.told
