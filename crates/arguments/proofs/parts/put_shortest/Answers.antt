use Rattle.std.proofs.Common.{◌++◌, ap, ◌∙◌}
use Rattle.arguments.proofs.Written.{shortest_writable}
use Rattle.arguments.proofs.parts.put_shortest.Goals as goal

pub returns-clause-ok : goal.returns-clause-ok
returns-clause-ok c = λ room d s least shallow.
    (shortest_writable room c.args.octets.now d (λ i. (c.type_inv.octets i).fits) s least shallow, c.in_ok-put_all.ensures.ok ∙ ap (λ o. c.args.out.now.since ++ o) least.is_short)
