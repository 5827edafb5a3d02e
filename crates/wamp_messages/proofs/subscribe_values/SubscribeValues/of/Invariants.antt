use Rattle.std.proofs.Common.{◌≡◌, length}
use Rattle.message_tree.specs.Data.{Entries}
use Rattle.msgpack_cursor.specs.Entries.{put_all}
use Rattle.wamp_messages.specs.body.Values.{subscribe_values_of}
use Rattle.wamp_messages.proofs.subscribe_values.SubscribeValues.of.Given as goal

-- what is left, put into the entries among which the values were found, makes the options
abbrev pub invariant-loop-key : goal.invariant-loop-key
invariant-loop-key l = record {
  among : Entries;
  left : put_all l.entries among ≡ l.options;
  found : l.values ≡ subscribe_values_of among;
}

abbrev pub decreases-loop-key : goal.decreases-loop-key
decreases-loop-key l = length l.entries
