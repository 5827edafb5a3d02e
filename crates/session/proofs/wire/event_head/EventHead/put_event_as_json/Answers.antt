use Rattle.std.proofs.Common.{◌≡◌, [], ◌∷◌, ◌++◌, ◌∙◌, ap, refl}
use Rattle.std.specs.Prelude.{decimal}
use Rattle.std.specs.Fmt.{digits}
use Rattle.session.proofs.wire.event_head.EventHead.put_event_as_json.Goals as goal

event_digits : 51 ∷ 54 ∷ [] ≡ decimal 36
unfolding digits
event_digits = refl

pub returns-clause-put : goal.returns-clause-put
returns-clause-put c = λ count.
    let n = c.args.numbers.0 in
    let m = c.args.numbers.1 in
    let details = c.put_digits.ensures.put ∙ ap (λ o. decimal m ++ o) (c.put_all.ensures ∙ ap (λ o. 44 ∷ 123 ∷ 125 ∷ o) c.requires.none) in
    let numbers = c.put_digits-2.ensures.put ∙ ap (λ o. decimal n ++ o) (c.put.ensures ∙ ap (λ o. 44 ∷ o) details) in
    c.put_all-2.ensures ∙ ap (λ o. 91 ∷ (51 ∷ 54 ∷ []) ++ (44 ∷ o)) numbers ∙ ap (λ o. 91 ∷ (o ++ 44 ∷ (decimal n ++ 44 ∷ (decimal m ++ 44 ∷ 123 ∷ 125 ∷ [])))) event_digits
