use Rattle.session.specs.Opened.{session as session_of}
use Rattle.std.specs.Arc.{arc_value}
use Rattle.broker_threads.specs.Streams.{offer_within, sight, stream}
use Rattle.broker_threads.proofs.StreamEnds.{talked}
use Rattle.broker_threads.proofs.reader_thread.serve.Goals as goal

pub returns : goal.returns
returns g c =
    let see = sight g.I.Source.seen g.O.Sink.seen in
    talked see (offer_within c.args.bound c.args.realms.now (arc_value c.args.broker.plan.now).outbox) (stream c.args.source c.args.sink c.args.posters.items) (session_of c.in-Ok.opened) c.open_session_within.new.source c.talk-talked.new.source c.open_session_within.new.sink c.in-Some.poster
    c.talk-talked.result.poster c.of-2.result c.talk-talked.result.course c.take_poster.new.posters.items c.put_poster.new.posters.items (record { opens = c.in-Ok.ensures.opened; same = record { read = c.open_session_within.ensures.reads.steps.name; written = c.open_session_within.ensures.writes.steps.name } }) c.in-Some.ensures.taken.0 c.in-Some.ensures.taken.1 c.put_poster.ensures c.of-2.ensures
    c.talk-talked.ensures
