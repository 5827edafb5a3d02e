use Rattle.std.specs.Int.{w128}
use Rattle.std.proofs.Common.{rules, FitsSigned}
use Rattle.std.proofs.lemmas.Int.{to_z-of_z}
use Rattle.msgpack_canonical.proofs.Tokens.{no-token}
use Rattle.msgpack_cursor.proofs.Wholes.{other-whole, whole-read}
use Rattle.msgpack_cursor.proofs.front.whole_at.Goals as goal

pub returns-in_default-token-clause-none : goal.returns-in_default-token-clause-none
returns-in_default-token-clause-none c = λ room z rest e. other-whole room c.in-Ok.token z c.args.octets.now c.in-Ok.rest.now rest c.in_default-token.not-Whole c.in-Ok.ensures.ok e

pub returns-in_default-clause-none : goal.returns-in_default-clause-none
returns-in_default-clause-none c = λ room z rest e. no-token room c.args.octets.now c.in_default.ensures.err _ rest e

pub returns-in-Whole-clause-some : goal.returns-in-Whole-clause-some
returns-in-Whole-clause-some c = λ room.
    let fits : FitsSigned w128 c.in-Whole.number = search rules in
    rw (to_z-of_z w128 c.in-Whole.number fits) (whole-read room c.in-Ok.token c.in-Whole.number c.args.octets.now c.in-Ok.rest.now c.in-Whole.is c.in-Ok.ensures.ok)
