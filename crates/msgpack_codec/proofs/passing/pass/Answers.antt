use Rattle.std.proofs.Common.{ap, ◌∙◌}
use Rattle.std.proofs.Common.{Err}
use Rattle.msgpack_codec.proofs.Passings.{passed-over, refused_deep, refused_otherwise}
use Rattle.msgpack_codec.proofs.passing.pass.Goals as goal

pub returns-in-Ok-clause-ok : goal.returns-in-Ok-clause-ok
returns-in-Ok-clause-ok c =
    let seen = c.in-Ok.ensures.ok in
    passed-over c.args.room c.args.octets.now seen.0 c.in-Ok.seen.rest.now c.in-Ok.seen.carriage c.in-Ok.seen.is_shortest seen.1 seen.2 c.in-Ok.ensures.shortest

pub returns-in-Err-clause-too_deep : goal.returns-in-Err-clause-too_deep
returns-in-Err-clause-too_deep c = λ is. refused_deep c.args.room c.args.octets.now (c.in-Err.ensures.err ∙ ap Err (c.refused.ensures.too_deep is))

pub returns-in-Err-clause-malformed : goal.returns-in-Err-clause-malformed
returns-in-Err-clause-malformed c = λ is. refused_otherwise c.args.room c.args.octets.now c.in-Err.fault c.in-Err.ensures.err (c.refused.ensures.malformed is)
