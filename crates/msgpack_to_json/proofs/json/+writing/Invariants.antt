use Rattle.std.proofs.Common.{◌≡◌, ◌+◌, ◌-◌, ◌*◌, ℕ, List, ◌++◌}
use Rattle.serde_json.specs.Written.{items_text, members_text}
use Rattle.message_tree.specs.Data.{Data, list, dict}
use Rattle.message_tree.specs.View.{items_of}
use Rattle.json_codec.specs.Encoder.{json_text, items_value, entries_value}
use Rattle.msgpack_to_json.specs.body.Members.{ItemsAt, PairsAt, entries_of}
use Rattle.msgpack_to_json.proofs.json.+writing.Given as goal

abbrev pub decreases-write_value : goal.decreases-write_value
decreases-write_value l = 3 * l.room + 1

abbrev pub decreases-write_any_value : goal.decreases-write_any_value
decreases-write_any_value l = 3 * l.room

abbrev pub decreases-write_items : goal.decreases-write_items
decreases-write_items l = 3 * l.room + 2

abbrev pub decreases-write_pairs : goal.decreases-write_pairs
decreases-write_pairs l = 3 * l.room + 2

abbrev pub invariant-write_items-loop : goal.invariant-write_items-loop
invariant-write_items-loop l = record {
  before : l.out.before ≡ l.fn.out.before;
  left : (ds : List Data) (after : List ℕ) → ItemsAt l.room l.count l.octets after ds → (left : List Data) × ItemsAt l.room (l.count - l.counter) l.rest after left
      × (l.out.since ++ items_text l.later (items_value (items_of left)) ≡ l.fn.out.since ++ json_text (list (items_of ds)));
}

abbrev pub invariant-write_pairs-loop : goal.invariant-write_pairs-loop
invariant-write_pairs-loop l = record {
  before : l.out.before ≡ l.fn.out.before;
  left : (ps : List (Data × Data)) (after : List ℕ) → PairsAt l.room l.count l.octets after ps → (left : List (Data × Data)) × PairsAt l.room (l.count - l.counter) l.rest after left
      × (l.out.since ++ members_text l.later (entries_value (entries_of left)) ≡ l.fn.out.since ++ json_text (dict (entries_of ps)));
}
