use Rattle.std.proofs.Common.{sym}
use Rattle.rawsocket.specs.declared.frame.Kind.TheVariants.{Ping}
use Rattle.connection.proofs.FramesPosted.{posted_as}
use Rattle.connection.proofs.frames.post_frame.Goals as goal

pub returns-in-Ping-clause-posted : goal.returns-in-Ping-clause-posted
returns-in-Ping-clause-posted g c =
    posted_as c.args.serializer c.post_ping.result Ping c.args.frame.kind c.from_vec.result c.args.frame.payload.items (g.P.Posting.posted c.args.poster.now) (g.P.Posting.posted c.post_ping.new.poster) (sym c.in-Ping.is) c.from_vec.ensures
    (c.post_ping.ensures.posted c.args.serializer)
