use Rattle.std.proofs.Common.{refl}
use Rattle.session.specs.Opened.{exchange}
use Rattle.client_session.specs.Hearing.{terms}
use Rattle.client_commands.specs.Stops.{IsUnsaid}
use Rattle.client_commands.proofs.StopLemmas.{by-link}
use Rattle.client_commands.proofs.hearing.say.Goals as goal

pub returns-in-Err-clause-unsaid : goal.returns-in-Err-clause-unsaid
returns-in-Err-clause-unsaid g c =
    λ given. by-link (IsUnsaid (terms c.args.link.now.serializer c.args.link.now.limit) c.args.said (exchange given (g.O.Sink.seen c.args.sink.now).taken) (exchange given (g.O.Sink.seen c.say.new.sink).taken))
    c.in-Err.fault _ c.from.ensures (λ no. record { unread = refl; cut = c.in-Err.ensures.cut_short })
