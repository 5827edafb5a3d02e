use Rattle.std.proofs.Common.{◌≡◌, ◌∙◌, ◌+◌, suc, take, length, ap, arith}
use Rattle.wamp_ids.specs.Uri.{components, first_is}
use Rattle.wamp_ids.proofs.ComponentLemmas.{first_is-take}
use Rattle.wamp_ids.proofs.components.is_first.Goals as goal

pub returns : goal.returns
returns c =
    let name = c.args.name.now in
    let text = c.args.text.now in
    let count : length name + 1 ≡ suc (length name) = omega arith in
    c.is_first_of.ensures ∙ ap (λ t. first_is name (components t)) (c.beginning.ensures ∙ ap (λ n. take n text) count) ∙ first_is-take name text
