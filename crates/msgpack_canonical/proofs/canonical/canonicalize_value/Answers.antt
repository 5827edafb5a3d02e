use Rattle.std.proofs.Common.{subst}
use Rattle.std.specs.Prelude.{IfSome, IfNone}
use Rattle.msgpack_codec.specs.body.Decoder.{value_at}
use Rattle.msgpack_canonical.specs.body.Fitting.{IsPut, IsUnread}
use Rattle.msgpack_canonical.proofs.Outcomes.{value-is-read, value-put}
use Rattle.msgpack_canonical.proofs.canonical.canonicalize_value.Goals as goal

pub returns-clause-ok : goal.returns-clause-ok
returns-clause-ok c =
    let read = value_at c.args.room c.args.octets.now in
    let put = subst (λ o. IfSome o (λ p. IsPut read p.rest.now p.is_written c.args.out.now.since c.put_value.new.out.since)) c.in-Some.is c.in_ok-done.ensures.some in
    value-put c.args.room c.args.octets.now c.in-Some.done.rest.now c.in-Some.done.is_written c.args.out.now.since c.put_value.new.out.since c.requires put

pub unreachable-requires : goal.unreachable-requires
unreachable-requires c =
    let read = value_at c.args.room c.args.octets.now in
    let none = subst (λ o. IfNone o (IsUnread read)) c.in-None.is c.in_ok-done.ensures.none in
    value-is-read c.args.room c.args.octets.now none c.requires
