use Rattle.std.proofs.Common.{◌≡◌, length}
use Rattle.message_tree.specs.Data.{Entries, find_entry}
use Rattle.msgpack_cursor.specs.Entries.{put_all}
use Rattle.msgpack_cursor.proofs.dictionary.Dictionary.get.Given as goal

-- what is left, put into the entries among which the value was looked for, makes the dictionary
abbrev pub invariant-loop-entry : goal.invariant-loop-entry
invariant-loop-entry l = record {
  among : Entries;
  left : put_all l.entries among ≡ l.self;
  latest : l.found ≡ find_entry l.key among;
}

abbrev pub decreases-loop-entry : goal.decreases-loop-entry
decreases-loop-entry l = length l.entries
