use Rattle.std.proofs.Common.{◌∙◌}
use Rattle.subscription_index.proofs.PiecesLemmas.{draft_made}
use Rattle.subscription_index.proofs.pieces.made.Goals as goal

pub returns-clause-made : goal.returns-clause-made
returns-clause-made c = λ parts d. draft_made c.args.draft _ _ parts (c.shrink_to.ensures.items ∙ c.in_ok-push.ensures.items) (c.shrink_to-2.ensures.items ∙ c.in_ok-extend_from_slice.ensures.items) d
