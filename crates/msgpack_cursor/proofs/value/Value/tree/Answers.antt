use Rattle.std.proofs.Common.{◌∙◌}
use Rattle.msgpack_cursor.specs.Standing.{value_in}
use Rattle.msgpack_cursor.proofs.Readings.{value-spelled}
use Rattle.msgpack_cursor.proofs.Spellings.{in_message, same_value, not_deep}
use Rattle.msgpack_cursor.proofs.value.Value.tree.Goals as goal

pub returns-in-Ok : goal.returns-in-Ok
returns-in-Ok c =
    let v = c.self.inside in
    let s = in_message v.room v.octets.now (value_in v.room v.octets.now) c.self.invariant.1 (value-spelled v.room v.octets.now c.self.invariant.0) in
    c.into_tree.ensures.same ∙ (same_value 100 v.octets.now c.in-Ok.message (value_in v.room v.octets.now) c.in-Ok.ensures.ok s ∙ c.self.view_is)

pub unreachable-requires : goal.unreachable-requires
unreachable-requires c =
    let v = c.self.inside in
    let s = in_message v.room v.octets.now (value_in v.room v.octets.now) c.self.invariant.1 (value-spelled v.room v.octets.now c.self.invariant.0) in
    not_deep 100 v.octets.now (value_in v.room v.octets.now) s (c.in-Err-TooDeep.ensures.too_deep c.in-Err-TooDeep.field-0-is)

pub unreachable-requires-in-Err-Malformed : goal.unreachable-requires-in-Err-Malformed
unreachable-requires-in-Err-Malformed c =
    let v = c.self.inside in
    let s = in_message v.room v.octets.now (value_in v.room v.octets.now) c.self.invariant.1 (value-spelled v.room v.octets.now c.self.invariant.0) in
    (c.in-Err-Malformed.ensures.malformed c.in-Err-Malformed.field-0-is).unspelled (value_in v.room v.octets.now) s
