use Rattle.std.proofs.Common.{subst}
use Rattle.msgpack_codec.specs.Tokens.{IsToken}
use Rattle.msgpack_canonical.proofs.Tokens.{no-token}
use Rattle.msgpack_cursor.proofs.Walking.{message-whole, message-is-whole, other-no-list, message-there}
use Rattle.msgpack_cursor.proofs.unread.Unread.of.Goals as goal

pub returns-in-List-clause-whole : goal.returns-in-List-clause-whole
returns-in-List-clause-whole c = message-whole c.in-List.left c.args.octets.now c.in-Ok.rest.now (subst (λ t. IsToken t c.args.octets.now c.in-Ok.rest.now) c.in-List.is c.in-Ok.ensures.ok)

pub returns-in-List-clause-spelled : goal.returns-in-List-clause-spelled
returns-in-List-clause-spelled c = λ d s. message-is-whole c.in-List.left c.args.octets.now c.in-Ok.rest.now d (subst (λ t. IsToken t c.args.octets.now c.in-Ok.rest.now) c.in-List.is c.in-Ok.ensures.ok) s

pub returns-in_default-token-clause-none : goal.returns-in_default-token-clause-none
returns-in_default-token-clause-none c = λ ds s. other-no-list c.in-Ok.token c.args.octets.now c.in-Ok.rest.now c.in-Ok.ensures.ok c.in_default-token.not-List ds s

pub returns-in_default-clause-none : goal.returns-in_default-clause-none
returns-in_default-clause-none c = λ ds s. message-there c.args.octets.now _ s (no-token 100 c.args.octets.now c.in_default.ensures.err)
