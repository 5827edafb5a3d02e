use Rattle.std.proofs.Common.{refl}
use Rattle.msgpack_cursor.proofs.Spellings.{in_message}
use Rattle.arguments.proofs.parts.put_spelling.Goals as goal

pub returns-clause-ok : goal.returns-clause-ok
returns-clause-ok c = record {
  part = c.args.value.now;
  is_read = refl;
  front = c.spelling.result.octets.now;
  spelled = in_message c.spelling.result.room c.spelling.result.octets.now c.args.value.now c.spelling.ensures.room c.spelling.ensures.spelled;
  behind = c.in_ok-put_all.ensures.ok;
}
