use Rattle.std.proofs.Common.{sym, ap, ◌∙◌}
use Rattle.std.specs.Cmp.Lexicographic.{slice_cmp}
use Rattle.std.specs.Ordering.{nat_cmp}
use Rattle.msgpack_canonical.specs.body.Entries.{entry_in, place_cmp}
use Rattle.msgpack_canonical.proofs.Placing.{placed-equal}
use Rattle.msgpack_canonical.proofs.entries.find.Goals as goal

pub returns-in-Equal-clause-there : goal.returns-in-Equal-clause-there
returns-in-Equal-clause-there c = λ _.
    let written = c.args.written.now in
    let key = c.key_at-key.result.now in
    let other = c.key_at.result.now in
    let one = ap (λ k. slice_cmp nat_cmp k other) c.key_at-key.ensures in
    let both = ap (λ k. slice_cmp nat_cmp (entry_in written c.args.place).0 k) c.key_at.ensures in
    let same = sym both ∙ (sym one ∙ (sym c.key_order.ensures ∙ c.in-Equal.is)) in
    (c.loop-at-test.true, placed-equal (place_cmp written) c.args.place c.args.sorted.now c.loop-at.at _ c.loop-at.invariant c.loop-at-test.true same)
