use Rattle.msgpack_canonical.proofs.Tokens.{other-token, no-token, text-token-read}
use Rattle.msgpack_canonical.proofs.texts.any_text.Goals as goal

pub returns-in-Some-clause-some : goal.returns-in-Some-clause-some
returns-in-Some-clause-some c = λ room. text-token-read room c.in-Ok.token c.in-Some.text c.args.octets.now c.in-Ok.rest.now c.in-Some.ensures.text c.in-Ok.ensures.ok

pub returns-in-None-clause-none : goal.returns-in-None-clause-none
returns-in-None-clause-none c = λ room. other-token room c.in-Ok.token c.args.octets.now c.in-Ok.rest.now c.in-None.ensures.none c.in-Ok.ensures.ok

pub returns-in_default-clause-none : goal.returns-in_default-clause-none
returns-in_default-clause-none c = λ room k rest e. absurd (no-token room c.args.octets.now c.in_default.ensures.err k rest e)
