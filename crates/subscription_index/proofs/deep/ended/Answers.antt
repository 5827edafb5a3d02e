use Rattle.std.proofs.Common.{[], ◌∷◌, ◌++◌, ap, ◌∙◌}
use Rattle.subscription_index.specs.body.Pieces.{padding}
use Rattle.subscription_index.proofs.PiecesLemmas.{ended_text}
use Rattle.subscription_index.proofs.deep.ended.Goals as goal

pub returns : goal.returns
returns c =
    c.in_ok-extend_from_slice-2.ensures.items
    ∙ ap (λ o. o ++ padding)
    (c.in_ok-push.ensures.items ∙ (ap (λ o. o ++ 46 ∷ []) (c.in_ok-extend_from_slice.ensures.items ∙ ap (λ o. o ++ c.args.topic.now) c.in_ok-octets.ensures.items) ∙ ended_text c.components_joined.ensures.joined c.args.topic.now))
