use Rattle.std.proofs.Common.{refl}
use Rattle.subscription_index.proofs.PiecesLemmas.{draft_empty}
use Rattle.subscription_index.proofs.pieces.add_empty.Goals as goal

pub returns : goal.returns
returns c = λ parts d. draft_empty c.args.draft.now _ parts refl refl refl refl refl d
