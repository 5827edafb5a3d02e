use Rattle.std.proofs.Common.{◌++◌, ◌+◌, ◌/◌, map, drop, sym, ap, ◌∙◌}
use Rattle.subscription_index.specs.body.Shapes.{dotted, named}
use Rattle.subscription_index.proofs.ShapesLemmas.{fill_more, longer, exceeds}
use Rattle.subscription_index.proofs.shapes.fill.Goals as goal

pub returns-then-is_longer-clause-long : goal.returns-then-is_longer-clause-long
returns-then-is_longer-clause-long c = λ _. (
  c.is_longer.ensures.limited c.if-is_longer.true,
  longer _ c.loop-place.text.items c.named-part.result.now _ c.args.most
      (fill_more (λ p. p.now) c.args.parts.now c.loop-place.place c.loop-place.left _ _ c.loop-place.text.items c.named-part.result.now c.loop-place.invariant c.loop-place-test.true c.named-part.ensures)
      (exceeds c.args.most _ (sym c.is_longer.ensures.longer ∙ c.if-is_longer.true)),
)

pub loop-place-preserved : goal.loop-place-preserved
loop-place-preserved c =
    fill_more (λ p. p.now) c.args.parts.now c.loop-place.place c.loop-place.left _ _ c.loop-place.text.items c.named-part.result.now c.loop-place.invariant c.loop-place-test.true c.named-part.ensures
    ∙ ap (λ t. t ++ dotted (named (c.loop-place.left / 2) (drop (c.loop-place.place + 1) (map (λ p. p.now) c.args.parts.now))))
    (ap (λ t. t ++ c.named-part.result.now) (sym c.in_ok-push.ensures.items) ∙ sym c.in_ok-extend_from_slice.ensures.items)
