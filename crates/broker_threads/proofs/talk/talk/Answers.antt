use Rattle.std.proofs.Common.{inl}
use Rattle.session.specs.Opened.{session as session_of}
use Rattle.broker_threads.specs.Sights.{sight}
use Rattle.broker_threads.specs.Talks.{passage, start_of}
use Rattle.broker_threads.proofs.Talking.{from_start, none_begun}
use Rattle.broker_threads.proofs.talk.talk.Goals as goal

pub returns-in-Err : goal.returns-in-Err
returns-in-Err g c =
    let i = g.I.Source in let o = g.O.Sink in
    none_begun (sight i.seen o.seen) c.args.session c.args.source.now c.args.poster c.not_begun.result.poster c.in-Err.refused c.not_begun.result.course
    c.not_begun.ensures.poster c.not_begun.ensures.course c.in-Err.ensures

pub returns : goal.returns
returns g c =
    let begun = c.in-Ok.begun in
    let made = c.in-Ok.ensures in
    let i = g.I.Source in
    record {
      joining = begun.made.joining;
      writer = begun.writer.promise.0.value;
      begins = made.begins;
      converses = inl (from_start i.seen (start_of (session_of begun.made.opened)) (start_of (session_of c.args.session.opened)) begun.made.joining (passage c.args.source.now c.args.poster)
          (passage c.converse-poster.new.source c.converse-poster.result.poster) c.converse-poster.result.read made.start c.converse-poster.ensures);
      writes = c.join-written.ensures;
    }
