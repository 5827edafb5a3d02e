use Rattle.std.proofs.Common.{◌≡◌, ◌++◌, length, drop, map}
use Rattle.msgpack_codec.specs.Short.{dict_head}
use Rattle.msgpack_canonical.specs.body.Entries.{all_kept, cuts, entry_in}
use Rattle.msgpack_canonical.proofs.entries.put_entries.Given as goal

abbrev pub invariant-loop-place : goal.invariant-loop-place
invariant-loop-place l = record {
  written : l.out.since ++ cuts l.written (drop l.place-index l.places) ≡ l.fn.out.since ++ (dict_head (length l.places) ++ cuts l.written l.places);
  fit : all_kept (map (entry_in l.written) l.places) ≡ all_kept (map (entry_in l.written) (drop l.place-index l.places));
  before : l.out.before ≡ l.fn.out.before;
}
