use Rattle.std.proofs.Common.{subst}
use Rattle.msgpack_codec.specs.Written.{IsShortest, settled}
use Rattle.msgpack_canonical.proofs.Refused.{refused-unread}
use Rattle.msgpack_cursor.proofs.Readings.{front-value}
use Rattle.msgpack_cursor.proofs.front.first_value.Goals as goal

pub invariant_of-value : goal.invariant_of-value
invariant_of-value c =
    let p = c.in-Ok.ensures.ok in
    let v = front-value c.args.room c.args.octets.now p.front c.in-Ok.passed.rest.now (settled p.written) p.parts p.spelled in
    rw (c.before-in-Ok.ensures p.front p.parts) (v.1, c.requires, λ is. subst (IsShortest p.front) v.2 (p.least is))

pub returns-in-Ok-clause-some : goal.returns-in-Ok-clause-some
returns-in-Ok-clause-some c =
    let p = c.in-Ok.ensures.ok in
    let read = (front-value c.args.room c.args.octets.now p.front c.in-Ok.passed.rest.now (settled p.written) p.parts p.spelled).0 in
    rw (c.before-in-Ok.ensures p.front p.parts) read

pub returns-in-Err-clause-none : goal.returns-in-Err-clause-none
returns-in-Err-clause-none c = refused-unread c.args.room c.args.octets.now c.in-Err.field-0 c.in-Err.ensures.too_deep c.in-Err.ensures.malformed
