use Rattle.std.proofs.Common.{◌≡◌, subst, arith}
use Rattle.msgpack_codec.specs.Written.{IsShortest, settled}
use Rattle.msgpack_cursor.proofs.Readings.{front-value, value-spelled, is-empty, not-empty, none-left, two-values, no-value}
use Rattle.msgpack_cursor.proofs.value.message.Goals as goal

pub returns-in-Err-clause-malformed : goal.returns-in-Err-clause-malformed
returns-in-Err-clause-malformed c = λ is. no-value c.args.octets.now (c.in-Err.ensures.malformed is)

pub returns-then-not-is_empty-clause-malformed : goal.returns-then-not-is_empty-clause-malformed
returns-then-not-is_empty-clause-malformed c = λ is.
    let p = c.in-Ok.ensures.ok in
    two-values c.args.octets.now p.front c.in-Ok.passed.rest.now (settled p.written) p.parts p.spelled (not-empty c.in-Ok.passed.rest.now c.if-not-is_empty.ensures)

pub invariant_of-result : goal.invariant_of-result
invariant_of-result c =
    let p = c.in-Ok.ensures.ok in
    let all : c.args.octets.now ≡ p.front = none-left c.args.octets.now p.front c.in-Ok.passed.rest.now p.parts (is-empty c.in-Ok.passed.rest.now c.if-not-is_empty.ensures) in
    let v = front-value 100 c.args.octets.now p.front c.in-Ok.passed.rest.now (settled p.written) p.parts p.spelled in
    rw all (v.1, omega arith, λ is. subst (IsShortest p.front) v.2 (p.least is))

pub returns-clause-ok : goal.returns-clause-ok
returns-clause-ok c = value-spelled 100 c.args.octets.now (invariant_of-result c).0
