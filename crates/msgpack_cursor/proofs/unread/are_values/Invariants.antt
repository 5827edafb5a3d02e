use Rattle.std.proofs.Common.{◌≡◌, ◌-◌}
use Rattle.msgpack_cursor.specs.Standing.{is_whole}
use Rattle.msgpack_cursor.proofs.unread.are_values.Given as goal

-- all are whole where those that are left are
abbrev pub invariant-loop : goal.invariant-loop
invariant-loop l = is_whole 99 (l.count - l.counter) l.rest ≡ is_whole 99 l.count l.octets
