use Rattle.std.proofs.Common.{refl, sym}
use Rattle.rawsocket.specs.declared.frame.Kind.TheVariants.{Ping}
use Rattle.connection.proofs.FramesPosted.{posted_as}
use Rattle.connection.proofs.WeightsCounted.{counts_none}
use Rattle.connection.proofs.frames.post_lying.Goals as goal

pub returns-in-Ok-clause-posted : goal.returns-in-Ok-clause-posted
returns-in-Ok-clause-posted g c =
    posted_as c.args.serializer c.post_ping.result Ping c.args.kind c.in-Ok.payload c.args.payload.now (g.P.Posting.posted c.args.poster.now) (g.P.Posting.posted c.post_ping.new.poster) (sym c.in-Ping.is) c.in-Ok.ensures (c.post_ping.ensures.posted c.args.serializer)

pub returns-in-Err-clause-counts : goal.returns-in-Err-clause-counts
returns-in-Err-clause-counts g c = counts_none c.args.serializer (g.P.Posting.posted c.args.poster.now) (g.P.Posting.posted c.args.poster.now) (g.P.Posting.weights c.args.poster.now) (g.P.Posting.weights c.args.poster.now) refl refl

pub returns-in-Pong-clause-counts : goal.returns-in-Pong-clause-counts
returns-in-Pong-clause-counts g c = counts_none c.args.serializer (g.P.Posting.posted c.args.poster.now) (g.P.Posting.posted c.args.poster.now) (g.P.Posting.weights c.args.poster.now) (g.P.Posting.weights c.args.poster.now) refl refl
