use Rattle.std.proofs.Common.{ap, ◌∙◌}
use Rattle.msgpack_codec.specs.Written.{settled}
use Rattle.msgpack_codec.specs.body.Decoder.{value_at}
use Rattle.msgpack_codec.proofs.SpelledIsRead.{value_again}
use Rattle.msgpack_canonical.proofs.Refused.{refused-unread}
use Rattle.msgpack_canonical.proofs.writing.behind.Goals as goal

pub returns-in-Ok-clause-some : goal.returns-in-Ok-clause-some
returns-in-Ok-clause-some c =
    let p = c.in-Ok.ensures.ok in
    (settled p.written, ap (value_at c.args.room) p.parts ∙ value_again c.args.room p.front (settled p.written) c.in-Ok.passed.rest.now p.spelled)

pub returns-in-Err-clause-none : goal.returns-in-Err-clause-none
returns-in-Err-clause-none c = refused-unread c.args.room c.args.octets.now c.in-Err.field-0 c.in-Err.ensures.too_deep c.in-Err.ensures.malformed
