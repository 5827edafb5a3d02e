use Rattle.std.proofs.Common.{◌≤◌, drop, length}
use Rattle.wamp_ids.specs.Uri.{components}
use Rattle.wamp_ids.specs.Pattern.{fits}
use Rattle.subscription_index.proofs.PiecesLemmas.{Going}
use Rattle.subscription_index.proofs.deep.fits_pieces.Given as goal

abbrev pub invariant-loop-index : goal.invariant-loop-index
invariant-loop-index l = record {
  place : l.place ≤ length (components l.fn.topic);
  going : Going (drop l.index l.deep.pieces.items) (drop l.at l.deep.named.items) (drop l.place (components l.fn.topic)) (fits (components l.fn.text) (components l.fn.topic));
}
