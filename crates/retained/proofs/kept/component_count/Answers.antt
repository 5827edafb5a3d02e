use Rattle.std.proofs.Common.{◌+◌, ap, ◌∙◌}
use Rattle.std.proofs.lemmas.List.{take_all}
use Rattle.retained.proofs.CountLemmas.{count-dots, dot_count}
use Rattle.retained.proofs.kept.component_count.Goals as goal

pub returns : goal.returns
returns c =
    let text = c.args.text.now in
    let whole = take_all c.loop-octet.octet-index text c.loop-octet-test.false in
    ap (λ n. n + 1) (c.loop-octet.invariant.1 ∙ ap dot_count whole) ∙ count-dots text
