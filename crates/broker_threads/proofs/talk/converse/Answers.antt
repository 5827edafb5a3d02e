use Rattle.session.specs.Opened.{session as session_of}
use Rattle.broker_threads.specs.Talks.{start_of}
use Rattle.broker_threads.proofs.Talking.{posted_behind}
use Rattle.broker_threads.proofs.talk.converse.Goals as goal

pub returns : goal.returns
returns g c =
    let i = g.I.Source in
    posted_behind i.seen (start_of (session_of c.args.made.opened)) c.args.made.joining c.args.source.now c.read_counted-read.new.source c.args.poster c.post.new.self
    c.read_counted-read.new.poster.poster.poster.poster c.read_counted-read.result c.in_default.ensures.posted c.in_default.ensures.same c.read_counted-read.ensures.posted c.read_counted-read.ensures.ended c.read_counted-read.ensures.reads
