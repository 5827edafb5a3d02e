use Rattle.std.proofs.Common.{◌≡◌, ◌<◌, ◌+◌, ◌*◌, length}
use Rattle.wamp_ids.specs.Uri.{components}
use Rattle.subscription_index.specs.body.Shapes.{mask_of}
use Rattle.subscription_index.proofs.ShapesLemmas.{digit_at}
use Rattle.subscription_index.proofs.shapes.mask_of.Given as goal

abbrev pub invariant-loop-depth : goal.invariant-loop-depth
invariant-loop-depth l = record {
  count : length (components l.fn.text) ≡ l._depth + length (components l.rest);
  mask : mask_of (components l.fn.text) ≡ l.mask + l.digit * mask_of (components l.rest);
  digit : l.digit ≡ digit_at l._depth;
  below : l.mask < l.digit;
}
