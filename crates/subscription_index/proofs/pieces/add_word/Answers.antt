use Rattle.std.proofs.Common.{◌∷◌, ◌++◌, [], ap, refl, ◌∙◌, append_assoc}
use Rattle.subscription_index.proofs.PiecesLemmas.{draft_word}
use Rattle.subscription_index.proofs.pieces.add_word.Goals as goal

pub returns : goal.returns
returns c = λ parts d.
    draft_word c.args.draft.now _ parts c.args.part.now c.requires.word c.requires.open c.requires.room refl
    (c.in_ok-push.ensures.items ∙ (ap (λ o. o ++ 46 ∷ []) c.in_ok-extend_from_slice.ensures.items ∙ append_assoc c.args.draft.now.named.items c.args.part.now (46 ∷ [])))
    c.octets_with.ensures.short c.octets_with.ensures.alone refl d
