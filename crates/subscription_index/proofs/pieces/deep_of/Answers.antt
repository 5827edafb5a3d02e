use Rattle.std.proofs.Common.{◌+◌, ◌∷◌, take, length, length-drop, sym, ap, ◌∙◌, arith}
use Rattle.wamp_ids.specs.Uri.{components}
use Rattle.subscription_index.proofs.PiecesLemmas.{more_drafted, rest_is}
use Rattle.subscription_index.proofs.pieces.deep_of.Goals as goal

pub loop-i-preserved : goal.loop-i-preserved
loop-i-preserved c =
    let rest = c.loop-i.rest.now in
    let i = c.in-Some.i in (
      more_drafted c.loop-i.draft c.add_part.new.draft (components c.args.text.now) (components rest) _ (take i rest) c.loop-i.dots c.in_ok-add_part.ensures
          (c.in-Some.ensures.cut.1 ∙ ap (λ r. take i rest ∷ components r) (sym (rest_is (i + 1) rest))) c.loop-i.invariant.0,
      omega (arith, c.loop-i.invariant.1, c.in-Some.ensures.cut.0, ap length (rest_is (i + 1) rest), length-drop (i + 1) rest),
    )
