use Rattle.msgpack_canonical.specs.body.CanonicalEntries.{key_cmp}
use Rattle.msgpack_canonical.proofs.Placing.{IsPast}
use Rattle.msgpack_canonical.proofs.canonical_entries.find.Given as goal

abbrev pub invariant-loop-at : goal.invariant-loop-at
invariant-loop-at l = IsPast key_cmp l.fn.one l.entries l.at
