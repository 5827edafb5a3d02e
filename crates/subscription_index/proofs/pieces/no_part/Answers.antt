use Rattle.std.proofs.Common.{refl}
use Rattle.subscription_index.proofs.PiecesLemmas.{draft_none}
use Rattle.subscription_index.proofs.pieces.no_part.Goals as goal

pub returns : goal.returns
returns c = draft_none _ c.new.ensures.items c.in_ok-with_capacity.ensures.items refl
