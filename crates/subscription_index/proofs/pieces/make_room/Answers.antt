use Rattle.std.proofs.Common.{refl}
use Rattle.subscription_index.proofs.PiecesLemmas.{draft_closed}
use Rattle.subscription_index.proofs.pieces.make_room.Goals as goal

pub returns-clause-draft : goal.returns-clause-draft
returns-clause-draft c = λ parts d. draft_closed c.args.draft.now _ parts c.in_ok-push.ensures.items refl refl d
