use Rattle.std.proofs.Common.{inl, refl, subst}
use Rattle.client_commands.specs.Acts.{exchange_of, standing_of, terms_of}
use Rattle.client_commands.specs.Stops.{ByLink, IsUnsaid}
use Rattle.client_commands.proofs.StopLemmas.{said-as}
use Rattle.client_commands.proofs.publishing.publish_as.Goals as goal

pub returns-in-Err-clause-ends : goal.returns-in-Err-clause-ends
returns-in-Err-clause-ends g c =
    let t = terms_of c.args.session.now in
    let before = exchange_of (standing_of c.args.session.now (g.I.Source.seen c.args.source.now) (g.O.Sink.seen c.args.sink.now)) in
    let now = exchange_of (standing_of c.args.session.now (g.I.Source.seen c.args.source.now) (g.O.Sink.seen c.say.new.sink)) in
    λ is. inl (subst (λ m. ByLink (IsUnsaid t m before now) c.in-Err.fault) c.in-Ok.ensures
    (said-as t t c.link.result.now c.args.session.now.line c.in-Ok.said before now c.in-Err.fault refl refl c.link.ensures (c.in-Err.ensures.unsaid (g.I.Source.seen c.args.source.now).given)))
