use Rattle.std.proofs.Common.{ap, codes, ◌∙◌}
use Rattle.wamp_messages.proofs.Kept.{same-text, publish_kept, publish-kept, publish-other}
use Rattle.wamp_messages.proofs.publish_values.PublishValues.keep.Goals as goal

pub returns-then-eq : goal.returns-then-eq
returns-then-eq c = λ es is.
    ap (λ k. publish_kept k c.args.value c.args.self.now) (same-text c.args.key.now (codes "acknowledge") c.if-eq.ensures) ∙ publish-kept c.args.key.now c.args.value es c.args.self.now is

pub returns-then-eq-2 : goal.returns-then-eq-2
returns-then-eq-2 c = λ es is.
    ap (λ k. publish_kept k c.args.value c.args.self.now) (same-text c.args.key.now (codes "disclose_me") c.if-eq-2.ensures) ∙ publish-kept c.args.key.now c.args.value es c.args.self.now is

pub returns-then-eq-3 : goal.returns-then-eq-3
returns-then-eq-3 c = λ es is.
    ap (λ k. publish_kept k c.args.value c.args.self.now) (same-text c.args.key.now (codes "retain") c.if-eq-3.ensures) ∙ publish-kept c.args.key.now c.args.value es c.args.self.now is

pub returns-else-eq-3 : goal.returns-else-eq-3
returns-else-eq-3 c = λ es is.
    publish-other c.args.key.now c.args.value es c.args.self.now _ is (c.keep_list.ensures es (ap (λ v. v.lists) is)) c.if-eq.ensures c.if-eq-2.ensures c.if-eq-3.ensures
