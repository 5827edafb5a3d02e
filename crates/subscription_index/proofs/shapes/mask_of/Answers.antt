use Rattle.std.proofs.Common.{◌≡◌, ◌+◌, ◌-◌, ◌∷◌, length, take, drop, None, Some, cond, sym, ap, ◌∙◌, arith}
use Rattle.wamp_ids.specs.Uri.{components}
use Rattle.subscription_index.specs.body.Shapes.{mask_of}
use Rattle.subscription_index.proofs.PiecesLemmas.{rest_is}
use Rattle.subscription_index.proofs.ShapesLemmas.{digit_bounded, digit_next, depth_more, mask_behind, is_deeper_than}
use Rattle.subscription_index.proofs.shapes.mask_of.Goals as goal

pub overflow_add-result : goal.overflow_add-result
overflow_add-result c = let b = digit_bounded c.loop-depth._depth c.loop-depth-test.true in omega (arith, b, c.loop-depth.invariant.digit, c.loop-depth.invariant.below, c.digit_for.ensures.bounded)

pub overflow_mul-result : goal.overflow_mul-result
overflow_mul-result c = let b = digit_bounded c.loop-depth._depth c.loop-depth-test.true in omega (arith, b, c.loop-depth.invariant.digit)

pub overflow_add-result-in-None : goal.overflow_add-result-in-None
overflow_add-result-in-None c = let b = digit_bounded c.loop-depth._depth c.loop-depth-test.true in omega (arith, b, c.loop-depth.invariant.digit, c.loop-depth.invariant.below, c.digit_for.ensures.bounded)

pub returns-in-None-clause-bounded : goal.returns-in-None-clause-bounded
returns-in-None-clause-bounded c = let b = digit_bounded c.loop-depth._depth c.loop-depth-test.true in omega (arith, b, c.loop-depth.invariant.digit, c.loop-depth.invariant.below, c.digit_for.ensures.bounded)

pub overflow_add-mask : goal.overflow_add-mask
overflow_add-mask c = let b = digit_bounded c.loop-depth._depth c.loop-depth-test.true in omega (arith, b, c.loop-depth.invariant.digit, c.loop-depth.invariant.below, c.digit_for-mask.ensures.bounded)

pub overflow_mul-digit : goal.overflow_mul-digit
overflow_mul-digit c = let b = digit_bounded c.loop-depth._depth c.loop-depth-test.true in omega (arith, b, c.loop-depth.invariant.digit)

pub loop-depth-preserved : goal.loop-depth-preserved
loop-depth-preserved c =
    let text = c.loop-depth.rest.now in
    let front = take c.in-Some.i text in
    let after = take (length text - (c.in-Some.i + 1)) (drop (c.in-Some.i + 1) text) in
    let cut : components text ≡ front ∷ components after =
    c.in-Some.ensures.cut.1 ∙ ap (λ r. front ∷ components r) (sym (rest_is (c.in-Some.i + 1) text)) in
    record {
      count = depth_more _ c.loop-depth._depth (components text) (components after) front c.loop-depth.invariant.count cut;
      mask = mask_behind _ c.loop-depth.mask c.loop-depth.digit c.digit_for-mask.result (components text) (components after) front c.loop-depth.invariant.mask cut c.digit_for-mask.ensures.digit;
      digit = let n = digit_next c.loop-depth._depth in omega (arith, n, c.loop-depth.invariant.digit);
      below = omega (arith, c.loop-depth.invariant.below, c.digit_for-mask.ensures.bounded);
    }

pub returns-clause-mask : goal.returns-clause-mask
returns-clause-mask c =
    ap (λ b. cond b None (Some (mask_of (components c.args.text.now)))) (sym (is_deeper_than (length (components c.args.text.now)) c.loop-depth._depth c.loop-depth.rest.now c.loop-depth.invariant.count c.loop-depth-test.false))
