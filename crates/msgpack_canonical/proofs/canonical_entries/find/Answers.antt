use Rattle.std.proofs.Common.{sym, ◌∙◌}
use Rattle.msgpack_canonical.specs.body.CanonicalEntries.{key_cmp}
use Rattle.msgpack_canonical.proofs.Placing.{placed-equal}
use Rattle.msgpack_canonical.proofs.canonical_entries.find.Goals as goal

pub returns-in-Equal-clause-there : goal.returns-in-Equal-clause-there
returns-in-Equal-clause-there c = λ _.
    let same = sym c.key_order.ensures ∙ c.in-Equal.is in
    (c.loop-at-test.true, placed-equal key_cmp c.args.one c.args.entries.now c.loop-at.at _ c.loop-at.invariant c.loop-at-test.true same)
