use Rattle.std.proofs.Common.{ap, ◌∙◌, codes}
use Rattle.wamp_messages.proofs.Kept.{same-text, subscribe_kept, subscribe-kept, subscribe-other}
use Rattle.wamp_messages.proofs.subscribe_values.SubscribeValues.keep.Goals as goal

pub returns-then-eq : goal.returns-then-eq
returns-then-eq c = λ es is.
    ap (λ k. subscribe_kept k c.args.value c.args.self.now) (same-text c.args.key.now (codes "match") c.if-eq.ensures) ∙ subscribe-kept c.args.key.now c.args.value es c.args.self.now is

pub returns-then-eq-2 : goal.returns-then-eq-2
returns-then-eq-2 c = λ es is.
    ap (λ k. subscribe_kept k c.args.value c.args.self.now) (same-text c.args.key.now (codes "get_retained") c.if-eq-2.ensures) ∙ subscribe-kept c.args.key.now c.args.value es c.args.self.now is

pub returns-else-eq-2 : goal.returns-else-eq-2
returns-else-eq-2 c = λ es is.
    subscribe-other c.args.key.now c.args.value c.args.self.now c.if-eq.ensures c.if-eq-2.ensures ∙ subscribe-kept c.args.key.now c.args.value es c.args.self.now is
