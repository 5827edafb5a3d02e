use Rattle.std.proofs.Common.{sym, ap, ◌∙◌}
use Rattle.msgpack_codec.specs.declared.format.Form.TheVariants as forms
use Rattle.msgpack_codec.specs.body.Decoder.{leaf_at}
use Rattle.msgpack_codec.proofs.Messages.{none}
use Rattle.msgpack_codec.proofs.TokenParts.{leaf-token, head-token, no-leaf-token, no-list-token, no-dict-token, nothing}
use Rattle.msgpack_codec.proofs.tokens.any_token.Goals as goal

pub returns-in_default-clause-err : goal.returns-in_default-clause-err
returns-in_default-clause-err c = nothing c.args.octets.now (none c.args.octets.now c.in_default.ensures.cases)

pub returns-in-Ok-clause-ok : goal.returns-in-Ok-clause-ok
returns-in-Ok-clause-ok c =
    head-token forms.List c.args.octets.now c.in-Some.rest.now c.in-Some.first.now c.in-List.size c.in-Ok.count c.in-Ok.rest.now c.in-Some.ensures.cases.0 (sym c.in-List.ensures) c.in-Ok.ensures.ok

pub returns-in-Err-clause-err : goal.returns-in-Err-clause-err
returns-in-Err-clause-err c =
    no-list-token c.args.octets.now c.in-Some.rest.now c.in-Some.first.now c.in-List.size c.in-Err.field-0 c.in-Some.ensures.cases.0 (sym c.in-List.ensures) c.in-Err.ensures.err

pub returns-in-Ok-size_of-clause-ok : goal.returns-in-Ok-size_of-clause-ok
returns-in-Ok-size_of-clause-ok c =
    head-token forms.Dict c.args.octets.now c.in-Some.rest.now c.in-Some.first.now c.in-Dict.size c.in-Ok-size_of.count c.in-Ok-size_of.rest.now c.in-Some.ensures.cases.0 (sym c.in-Dict.ensures) c.in-Ok-size_of.ensures.ok

pub returns-in-Err-size_of-clause-err : goal.returns-in-Err-size_of-clause-err
returns-in-Err-size_of-clause-err c =
    no-dict-token c.args.octets.now c.in-Some.rest.now c.in-Some.first.now c.in-Dict.size c.in-Err-size_of.field-0 c.in-Some.ensures.cases.0 (sym c.in-Dict.ensures) c.in-Err-size_of.ensures.err

pub returns-in-Ok-leaf-clause-ok : goal.returns-in-Ok-leaf-clause-ok
returns-in-Ok-leaf-clause-ok c =
    let rest = c.in-Some.rest.now in
    leaf-token c.in-Ok-leaf.token c.args.octets.now rest c.in-Some.first.now c.in-Ok-leaf.rest.now c.in-Some.ensures.cases.0 c.in-Ok-leaf.ensures.leaf
    (ap (λ form. leaf_at form rest) (sym c.form_of.ensures) ∙ c.in-Ok-leaf.ensures.ok)

pub returns-in-Err-leaf-clause-err : goal.returns-in-Err-leaf-clause-err
returns-in-Err-leaf-clause-err c =
    let rest = c.in-Some.rest.now in
    no-leaf-token c.args.octets.now rest c.in-Some.first.now c.in-Err-leaf.field-0 c.in-Some.ensures.cases.0 (ap (λ form. leaf_at form rest) (sym c.form_of.ensures) ∙ c.in-Err-leaf.ensures.err)
    (λ size is. c.in_default-form_of.not-List size (c.form_of.ensures ∙ is)) (λ size is. c.in_default-form_of.not-Dict size (c.form_of.ensures ∙ is))
