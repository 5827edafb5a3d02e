use Rattle.std.proofs.Common.{◌≡◌, ◌-◌, ℕ, true}
use Rattle.message_tree.specs.Data.{Entries, no_entries}
use Rattle.msgpack_codec.specs.body.Decoder.{value_at, dict_at}
use Rattle.msgpack_canonical.specs.body.CanonicalEntries.{AreSeen}
use Rattle.msgpack_canonical.proofs.canonical_entries.canonical_entries.Given as goal

abbrev pub invariant-loop : goal.invariant-loop
invariant-loop l = record {
  found : Entries;
  read : (room : ℕ) → dict_at (value_at room) (l.count - l.counter) found true l.rest ≡ dict_at (value_at room) l.count no_entries true l.octets;
  are : AreSeen l.entries.items found;
}
