use Rattle.std.proofs.Common.{◌≡◌, ◌∷◌, [], ◌++◌, ap, ◌∙◌, rules}
use Rattle.std.specs.Prelude.{decimal}
use Rattle.replay.proofs.PrintLemmas.{printed-append}
use Rattle.replay.proofs.print.print.Goals as goal

pub returns : goal.returns
returns c =
    let digits : c.as_bytes.result.now ≡ decimal c.args.number = search rules in
    let first = c.in_ok-extend_from_slice.ensures.items ∙ ap (λ d. c.args.out.now.items ++ d) digits in
    let second = c.in_ok-push.ensures.items ∙ ap (λ x. x ++ 32 ∷ []) first in
    let third = c.in_ok-extend_from_slice-2.ensures.items ∙ ap (λ x. x ++ c.args.text.now) second in
    let fourth = c.in_ok-push-2.ensures.items ∙ ap (λ x. x ++ 10 ∷ []) third in
    record { printed = fourth ∙ printed-append c.args.out.now.items (decimal c.args.number) c.args.text.now }
