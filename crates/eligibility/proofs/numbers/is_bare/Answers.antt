use Rattle.std.proofs.Common.{sym, ap, ◌∙◌, subst}
use Rattle.msgpack_codec.specs.Tokens.{IsToken}
use Rattle.msgpack_canonical.proofs.Tokens.{no-token}
use Rattle.msgpack_cursor.proofs.Walking.{other-no-list, message-there}
use Rattle.eligibility.specs.body.Standing.{is_bare}
use Rattle.eligibility.proofs.Standing.{members, bare-count}
use Rattle.eligibility.proofs.numbers.is_bare.Goals as goal

pub returns-in_default : goal.returns-in_default
returns-in_default c = λ ds s. absurd (message-there c.args.octets.now _ s (no-token 100 c.args.octets.now c.in_default.ensures.err))

pub returns-in-List : goal.returns-in-List
returns-in-List c = λ ds s.
    let head = subst (λ t. IsToken t c.args.octets.now c.in-Ok._members.now) c.in-List.is c.in-Ok.ensures.ok in
    bare-count c.in-List.count c.in-Ok._members.now ∙ ap is_bare (sym (members c.in-List.count c.args.octets.now c.in-Ok._members.now ds head s).1)

pub returns-in_default-token : goal.returns-in_default-token
returns-in_default-token c = λ ds s. absurd (other-no-list c.in-Ok.token c.args.octets.now c.in-Ok._members.now c.in-Ok.ensures.ok c.in_default-token.not-List ds s)
