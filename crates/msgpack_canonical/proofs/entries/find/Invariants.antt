use Rattle.msgpack_canonical.specs.body.Entries.{place_cmp}
use Rattle.msgpack_canonical.proofs.Placing.{IsPast}
use Rattle.msgpack_canonical.proofs.entries.find.Given as goal

abbrev pub invariant-loop-at : goal.invariant-loop-at
invariant-loop-at l = IsPast (place_cmp l.written) l.fn.place l.sorted l.at
