use Rattle.msgpack_canonical.proofs.CanonicalEntries.{least-text, least-plain, least-passed}
use Rattle.msgpack_canonical.proofs.canonical_entries.behind_canonical.Goals as goal

pub returns-in-Some : goal.returns-in-Some
returns-in-Some c = least-text c.args.octets.now c.in-Some._text.now c.in-Some.rest.now c.in-Some.ensures.spelled c.in-Some.ensures.utf8 c.in-Some.ensures.few

pub returns-then-passed : goal.returns-then-passed
returns-then-passed c = least-passed c.args.octets.now c.in-Ok.passed.rest.now c.in-Ok.passed.carriage c.in-Ok.passed.is_shortest c.if-passed.true c.in-Ok.ensures.ok

pub returns-in-Some-short_leaf : goal.returns-in-Some-short_leaf
returns-in-Some-short_leaf c = least-plain c.args.octets.now c.in-Some-short_leaf.rest.now c.in-Some-short_leaf.ensures
