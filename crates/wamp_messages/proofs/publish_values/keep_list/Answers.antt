use Rattle.std.proofs.Common.{ap, codes, ◌∙◌}
use Rattle.wamp_messages.proofs.Kept.{same-text, lists_kept, lists-kept, lists-other}
use Rattle.wamp_messages.proofs.publish_values.keep_list.Goals as goal

pub returns-then-eq : goal.returns-then-eq
returns-then-eq c = λ es is.
    ap (λ k. lists_kept k c.args.value c.args.lists.now) (same-text c.args.key.now (codes "exclude_me") c.if-eq.ensures) ∙ lists-kept c.args.key.now c.args.value es c.args.lists.now is

pub returns-then-eq-2 : goal.returns-then-eq-2
returns-then-eq-2 c = λ es is.
    ap (λ k. lists_kept k c.args.value c.args.lists.now) (same-text c.args.key.now (codes "exclude") c.if-eq-2.ensures) ∙ lists-kept c.args.key.now c.args.value es c.args.lists.now is

pub returns-then-eq-3 : goal.returns-then-eq-3
returns-then-eq-3 c = λ es is.
    ap (λ k. lists_kept k c.args.value c.args.lists.now) (same-text c.args.key.now (codes "exclude_authid") c.if-eq-3.ensures) ∙ lists-kept c.args.key.now c.args.value es c.args.lists.now is

pub returns-then-eq-4 : goal.returns-then-eq-4
returns-then-eq-4 c = λ es is.
    ap (λ k. lists_kept k c.args.value c.args.lists.now) (same-text c.args.key.now (codes "exclude_authrole") c.if-eq-4.ensures) ∙ lists-kept c.args.key.now c.args.value es c.args.lists.now is

pub returns-then-eq-5 : goal.returns-then-eq-5
returns-then-eq-5 c = λ es is.
    ap (λ k. lists_kept k c.args.value c.args.lists.now) (same-text c.args.key.now (codes "eligible") c.if-eq-5.ensures) ∙ lists-kept c.args.key.now c.args.value es c.args.lists.now is

pub returns-then-eq-6 : goal.returns-then-eq-6
returns-then-eq-6 c = λ es is.
    ap (λ k. lists_kept k c.args.value c.args.lists.now) (same-text c.args.key.now (codes "eligible_authid") c.if-eq-6.ensures) ∙ lists-kept c.args.key.now c.args.value es c.args.lists.now is

pub returns-then-eq-7 : goal.returns-then-eq-7
returns-then-eq-7 c = λ es is.
    ap (λ k. lists_kept k c.args.value c.args.lists.now) (same-text c.args.key.now (codes "eligible_authrole") c.if-eq-7.ensures) ∙ lists-kept c.args.key.now c.args.value es c.args.lists.now is

pub returns-else-eq-7 : goal.returns-else-eq-7
returns-else-eq-7 c = λ es is.
    lists-other c.args.key.now c.args.value c.args.lists.now c.if-eq.ensures c.if-eq-2.ensures c.if-eq-3.ensures c.if-eq-4.ensures c.if-eq-5.ensures c.if-eq-6.ensures c.if-eq-7.ensures
    ∙ lists-kept c.args.key.now c.args.value es c.args.lists.now is
