use Rattle.std.proofs.Common.{◌≡◌, ◌≤◌, ◌∷◌, ◌/◌, map, drop, length, sym, ap, ◌∙◌, arith}
use Rattle.std.proofs.lemmas.List.{length-map}
use Rattle.subscription_index.specs.body.Shapes.{dotted, named}
use Rattle.subscription_index.proofs.ShapesLemmas.{adds_other_mask, adds_too_long, adds_unnumbered, adds_other_shape, adds_sought, dot_first}
use Rattle.subscription_index.proofs.shapes.add_shaped.Goals as goal

pub returns-then-mask-topic_mask : goal.returns-then-mask-topic_mask
returns-then-mask-topic_mask c =
    adds_other_mask c.args.table.now c.args.shape c.args.topic_mask (map (λ p. p.now) c.args.parts.now) c.args.numbers.now.items c.requires.mask (λ h. omega (arith, h, c.if-mask-topic_mask.true))

pub returns-then-mask-topic_mask-2 : goal.returns-then-mask-topic_mask-2
returns-then-mask-topic_mask-2 c =
    adds_other_mask c.args.table.now c.args.shape c.args.topic_mask (map (λ p. p.now) c.args.parts.now) c.args.numbers.now.items c.requires.mask (λ h. c.if-mask-topic_mask-2.true)

pub returns-then-not-is_whole : goal.returns-then-not-is_whole
returns-then-not-is_whole c =
    let long = c.in_ok-is_whole.ensures.long c.if-not-is_whole.true in
    adds_too_long c.components_joined.ensures.joined c.args.table.now c.args.shape c.longest_of.result (map (λ p. p.now) c.args.parts.now) c.args.numbers.now.items (c.longest_of.ensures long.0) long.1

pub returns-in_default : goal.returns-in_default
returns-in_default c =
    let ps = map (λ p. p.now) c.args.parts.now in
    let some : 1 ≤ length ps = omega (arith, c.requires.some, length-map c.args.parts.now (λ p. p.now)) in
    let is : dotted (named (c.args.shape / 4) ps) ≡ 46 ∷ c.behind_first-wildcard.result.now =
    dot_first (c.args.shape / 4) ps c.fill.new.text.items _ some (c.in_ok-is_whole.ensures.whole c.if-not-is_whole.false) (c.behind_first-wildcard.ensures ∙ ap (λ t. drop 1 t) c.as_slice.ensures.value) in
    adds_unnumbered c.components_joined.ensures.joined c.args.table.now c.behind_first-wildcard.result.now 46 c.args.shape ps c.args.numbers.now.items is (sym c.find.ensures ∙ c.in_default.is)

pub returns-in_ok-push : goal.returns-in_ok-push
returns-in_ok-push c =
    let ps = map (λ p. p.now) c.args.parts.now in
    let some : 1 ≤ length ps = omega (arith, c.requires.some, length-map c.args.parts.now (λ p. p.now)) in
    let is : dotted (named (c.args.shape / 4) ps) ≡ 46 ∷ c.behind_first-wildcard.result.now =
    dot_first (c.args.shape / 4) ps c.fill.new.text.items _ some (c.in_ok-is_whole.ensures.whole c.if-not-is_whole.false) (c.behind_first-wildcard.ensures ∙ ap (λ t. drop 1 t) c.as_slice.ensures.value) in
    adds_sought c.components_joined.ensures.joined c.args.table.now c.behind_first-wildcard.result.now 46 c.args.shape c.in-Some.number ps c.args.numbers.now.items _ c.requires.dotless is
    (sym c.find.ensures ∙ c.in-Some.is) (sym c.has_shape.ensures ∙ c.if-has_shape.true) c.in_ok-push.ensures.items

pub returns-else-has_shape : goal.returns-else-has_shape
returns-else-has_shape c =
    let ps = map (λ p. p.now) c.args.parts.now in
    let some : 1 ≤ length ps = omega (arith, c.requires.some, length-map c.args.parts.now (λ p. p.now)) in
    let few : length ps ≤ 8 = omega (arith, c.requires.few, length-map c.args.parts.now (λ p. p.now)) in
    let is : dotted (named (c.args.shape / 4) ps) ≡ 46 ∷ c.behind_first-wildcard.result.now =
    dot_first (c.args.shape / 4) ps c.fill.new.text.items _ some (c.in_ok-is_whole.ensures.whole c.if-not-is_whole.false) (c.behind_first-wildcard.ensures ∙ ap (λ t. drop 1 t) c.as_slice.ensures.value) in
    adds_other_shape c.components_joined.ensures.joined c.args.table.now c.behind_first-wildcard.result.now 46 c.args.shape ps c.args.numbers.now.items few is
    (sym c.has_shape.ensures ∙ c.if-has_shape.false)
