use Rattle.std.proofs.Common.{◌+◌, ◌*◌, Some, length, ap, sym, ◌∙◌}
use Rattle.wamp_ids.specs.Uri.{components}
use Rattle.subscription_index.specs.body.Shapes.{is_deep, mask_of, shape_of, size_of}
use Rattle.subscription_index.proofs.ShapesLemmas.{shape_by}
use Rattle.subscription_index.proofs.shapes.shape_of.Goals as goal

pub returns-in-Some : goal.returns-in-Some
unfolding shape_of
returns-in-Some c =
    ap (λ z. Some (4 * c.in-Some.mask + z)) c.size_of.ensures.size
    ∙ shape_by (is_deep c.args.text.now) c.in-Some.mask (mask_of (components c.args.text.now)) (size_of (length c.args.text.now)) (sym c.in-Some.is ∙ c.mask_of.ensures.mask)
