use Rattle.std.proofs.Common.{pos, subst, sym, ap, ◌∙◌, arith}
use Rattle.msgpack_codec.specs.Tokens.{IsToken}
use Rattle.msgpack_codec.specs.declared.tokens.Token.TheVariants.{Whole, List as ListOf, Dict as DictOf}
use Rattle.msgpack_codec.proofs.HeadTokens.{whole-token, dict-token, list-token, two-token}
use Rattle.msgpack_codec.proofs.tokens.first_token.Goals as goal

pub returns-then-first-lt128-clause-ok : goal.returns-then-first-lt128-clause-ok
returns-then-first-lt128-clause-ok c =
    subst (λ t. IsToken t c.args.octets.now c.in-Some.rest.now) (sym (c.whole.ensures ∙ ap (λ n. Whole (pos n)) c.from.ensures)) (whole-token c.args.octets.now c.in-Some.rest.now c.in-Some.first.now c.in-Some.ensures.cases.0 c.if-first-lt128.true)

pub returns-then-first-lt144-clause-ok : goal.returns-then-first-lt144-clause-ok
returns-then-first-lt144-clause-ok c =
    subst (λ n. IsToken (DictOf n) c.args.octets.now c.in-Some.rest.now) (sym c.from-then-first-lt144.ensures)
    (dict-token c.args.octets.now c.in-Some.rest.now c.in-Some.first.now c.in-Some.ensures.cases.0 (omega (arith, c.if-first-lt128.false)) c.if-first-lt144.true)

pub returns-then-first-lt160-clause-ok : goal.returns-then-first-lt160-clause-ok
returns-then-first-lt160-clause-ok c =
    subst (λ n. IsToken (ListOf n) c.args.octets.now c.in-Some.rest.now) (sym c.from-then-first-lt160.ensures)
    (list-token c.args.octets.now c.in-Some.rest.now c.in-Some.first.now c.in-Some.ensures.cases.0 (omega (arith, c.if-first-lt144.false)) c.if-first-lt160.true)

pub returns-in-Some-number_in_two-clause-ok : goal.returns-in-Some-number_in_two-clause-ok
returns-in-Some-number_in_two-clause-ok c =
    subst (λ t. IsToken t c.args.octets.now c.in-Some-number_in_two.rest.now) (sym c.whole-in-Some-number_in_two.ensures)
    (two-token c.args.octets.now c.in-Some.rest.now c.in-Some-number_in_two.rest.now c.in-Some.first.now c.in-Some-number_in_two.number c.in-Some.ensures.cases.0 c.if-first.true c.in-Some-number_in_two.ensures)
