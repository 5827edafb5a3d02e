use Rattle.std.proofs.Common.{subst}
use Rattle.std.specs.Prelude.{IfSome, IfNone}
use Rattle.msgpack_codec.specs.body.Decoder.{value_at}
use Rattle.msgpack_canonical.specs.body.Fitting.{IsPut, IsUnread}
use Rattle.msgpack_canonical.proofs.Outcomes.{is-put, passed-is-read}
use Rattle.msgpack_canonical.proofs.canonical.put_passed.Goals as goal

pub returns-in-Some-clause-ok : goal.returns-in-Some-clause-ok
returns-in-Some-clause-ok c =
    let read = value_at c.args.room c.args.octets.now in
    let put = subst (λ o. IfSome o (λ p. IsPut read p.rest.now p.is_written c.args.out.now.since c.put_value.new.out.since)) c.in-Some.is c.in_ok-put.ensures.some in
    is-put c.args.room c.args.octets.now c.args.passed.rest.now c.args.passed.carriage c.args.passed.is_shortest c.in-Some.put.rest.now c.in-Some.put.is_written c.args.out.now.since c.put_value.new.out.since put

pub returns-in-None-clause-ok : goal.returns-in-None-clause-ok
returns-in-None-clause-ok c =
    let read = value_at c.args.room c.args.octets.now in
    let none = subst (λ o. IfNone o (IsUnread read)) c.in-None.is c.in_ok-put.ensures.none in
    λ p. absurd (passed-is-read c.args.room c.args.octets.now c.args.passed.rest.now c.args.passed.carriage c.args.passed.is_shortest none p)
