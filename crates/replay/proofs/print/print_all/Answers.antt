use Rattle.std.proofs.Common.{sym, ap, ◌∙◌, ◌++◌, append-nil, append_assoc, take}
use Rattle.std.proofs.lemmas.List.{take_all}
use Rattle.session.specs.ToClient.{message_of}
use Rattle.replay.specs.Transcript.{item_text, printed, printed_all}
use Rattle.replay.proofs.PrintLemmas.{printed_all-more}
use Rattle.replay.proofs.print.print_all.Goals as goal

pub loop-number-init : goal.loop-number-init
loop-number-init c = sym (append-nil c.args.out.now.items)

pub loop-number-preserved : goal.loop-number-preserved
loop-number-preserved c =
    let g = c.loop-number-item.result in
    let small = rw c.deref-number-items.ensures.value at c.loop-number-test.true in
    let is = rw c.deref-number-items.ensures.value at c.loop-number-item.is in
    c.in_ok-print_item.ensures.printed
    ∙ (ap (λ o. o ++ printed g.0 (item_text (message_of g.1))) c.loop-number.invariant
    ∙ (append_assoc c.args.out.now.items (printed_all (take c.loop-number.number-index c.args.given.now.items)) (printed g.0 (item_text (message_of g.1)))
    ∙ ap (λ l. c.args.out.now.items ++ l) (sym (printed_all-more c.args.given.now.items c.loop-number.number-index g small is))))

pub returns : goal.returns
returns c =
    let past = rw c.deref-number-items.ensures.value at c.loop-number-test.false in
    record { printed = c.loop-number.invariant ∙ ap (λ g. c.args.out.now.items ++ printed_all g) (take_all c.loop-number.number-index c.args.given.now.items past) }
