use Rattle.std.proofs.Common.{◌≡◌, Some, Err, sym, ap, ◌∙◌}
use Rattle.std.proofs.lemmas.Result.{err_from_is_err_and}
use Rattle.eligibility.specs.declared.fault.Fault.TheVariants.{Shape}
use Rattle.eligibility.specs.Options.{list_or_none, some_list, text_of}
use Rattle.eligibility.proofs.Standing.{list-spelled}
use Rattle.eligibility.proofs.options.texts_of.Goals as goal

pub of-requires : goal.of-requires
of-requires c = (c.in-List.field-0, list-spelled c.spelling.result.room c.spelling.result.octets.now c.in-Some.value c.in-List.field-0 c.in-List.ensures c.spelling.ensures.room c.spelling.ensures.spelled)

pub returns-in_err-texts-in-List-clause-bad : goal.returns-in_err-texts-in-List-clause-bad
returns-in_err-texts-in-List-clause-bad c = λ is.
    let spelled = list-spelled c.spelling.result.room c.spelling.result.octets.now c.in-Some.value c.in-List.field-0 c.in-List.ensures c.spelling.ensures.room c.spelling.ensures.spelled in
    let p = err_from_is_err_and c.from_residual.result c.from_residual.ensures.1 in
    let same = sym p.1 ∙ is in
    let shape : p.0 ≡ Shape = cc in
    ap (list_or_none text_of) c.in-Some.is ∙ (ap (λ d. list_or_none text_of (Some d)) (sym c.in-List.ensures) ∙ ap some_list (c.in_err-texts-in-List.ensures.bad (ap Err (sym p.2 ∙ shape)) c.in-List.field-0 spelled))

pub returns-in_ok-texts-in-List-clause-ok : goal.returns-in_ok-texts-in-List-clause-ok
returns-in_ok-texts-in-List-clause-ok c =
    let spelled = list-spelled c.spelling.result.room c.spelling.result.octets.now c.in-Some.value c.in-List.field-0 c.in-List.ensures c.spelling.ensures.room c.spelling.ensures.spelled in
    ap (list_or_none text_of) c.in-Some.is ∙ (ap (λ d. list_or_none text_of (Some d)) (sym c.in-List.ensures) ∙ ap some_list (c.in_ok-texts-in-List.ensures.ok c.in-List.field-0 spelled))
