use Rattle.std.proofs.Common.{[]}
use Rattle.arguments.proofs.Written.{canonical_put}
use Rattle.arguments.proofs.parts.put_canonical.Goals as goal

pub returns-clause-ok : goal.returns-clause-ok
returns-clause-ok c = λ d s shallow.
    canonical_put c.args.room c.args.octets.now [] c.args.out.now.since c.canonicalize_value.new.out.since c.in_ok-canonicalize_value.field-0 d (λ i. (c.type_inv.octets i).fits) s shallow c.in_ok-canonicalize_value.ensures.ok
