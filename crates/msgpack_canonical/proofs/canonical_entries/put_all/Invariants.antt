use Rattle.std.proofs.Common.{◌≡◌, ◌++◌, length, drop}
use Rattle.msgpack_codec.specs.Short.{dict_head}
use Rattle.msgpack_canonical.specs.body.CanonicalEntries.{all_octets}
use Rattle.msgpack_canonical.proofs.canonical_entries.put_all.Given as goal

abbrev pub invariant-loop-entry : goal.invariant-loop-entry
invariant-loop-entry l = record {
  written : l.out.since ++ all_octets (drop l.entry-index l.entries) ≡ l.fn.out.since ++ (dict_head (length l.entries) ++ all_octets l.entries);
  before : l.out.before ≡ l.fn.out.before;
}
