use Rattle.std.proofs.Common.{◌≡◌, ◌+◌, ◌∷◌, take, drop, length, sym, ap, ap₂, ◌∙◌, arith, length-append, length-drop}
use Rattle.std.proofs.lemmas.List.{drop-drop}
use Rattle.std.specs.Str.{bytes_eq}
use Rattle.wamp_ids.specs.Uri.{components}
use Rattle.wamp_ids.specs.Pattern.{fits}
use Rattle.subscription_index.specs.body.Pieces.{ended, padding}
use Rattle.subscription_index.proofs.Components.{component_count}
use Rattle.subscription_index.proofs.PiecesLemmas.{Going, IsCount, alone_in, at_end, at_piece, count_within, going, other_length, padded, piece_differs, piece_in, rest_is, starts-length, step_count, step_octets, step_passed, step_within}
use Rattle.subscription_index.proofs.deep.fits_pieces.Goals as goal

pub returns-then-saturating_sub-deep : goal.returns-then-saturating_sub-deep
returns-then-saturating_sub-deep c =
    let topic = components c.args.topic.now in
    other_length (components c.args.text.now) topic
    (λ e. c.if-saturating_sub-deep.true (omega (arith, e, c.requires.made.1, c.saturating_sub.ensures, ap length c.requires.starts, starts-length 0 topic)))

pub loop-index-init : goal.loop-index-init
loop-index-init c =
    let topic = components c.args.topic.now in
    let long : length (components c.args.text.now) ≡ length topic =
    omega (arith, c.if-saturating_sub-deep.false, c.requires.made.1, c.saturating_sub.ensures, ap length c.requires.starts, starts-length 0 topic, component_count c.args.topic.now) in
    record {
      place = omega arith;
      going = going c.args.deep.now.pieces.items c.args.deep.now.named.items (components c.args.text.now) topic c.requires.made.0 long;
    }

pub count_at-count-requires : goal.count_at-count-requires
count_at-count-requires c =
    let topic = components c.args.topic.now in
    let named = c.args.deep.now.named.items in
    let place = c.loop-index.place in
    let at = c.loop-index.at in
    let piece = c.index-piece.result.now in
    let more = drop (c.loop-index.index + 1) c.args.deep.now.pieces.items in
    let g : Going (piece ∷ more) (drop at named) (drop place topic) (fits (components c.args.text.now) topic) =
    at_piece c.args.deep.now.pieces.items c.loop-index.index _ piece (drop at named) (drop place topic) _ (omega (arith, c.loop-index-test.true, c.len-index-end.ensures)) c.index-piece.ensures c.loop-index.invariant.going in
    λ h. omega (arith, alone_in piece more (drop at named) topic place _ c.loop-index.invariant.place g h, ap length c.requires.starts, starts-length 0 topic)

pub start_at-from-requires : goal.start_at-from-requires
start_at-from-requires c =
    let topic = components c.args.topic.now in
    omega (arith, c.loop-index.invariant.place, ap length c.requires.starts, starts-length 0 topic)

pub slice_bounds-begin_alike-count : goal.slice_bounds-begin_alike-count
slice_bounds-begin_alike-count c =
    let topic = components c.args.topic.now in
    let named = c.args.deep.now.named.items in
    let place = c.loop-index.place in
    let at = c.loop-index.at in
    let piece = c.index-piece.result.now in
    let more = drop (c.loop-index.index + 1) c.args.deep.now.pieces.items in
    let g : Going (piece ∷ more) (drop at named) (drop place topic) (fits (components c.args.text.now) topic) =
    at_piece c.args.deep.now.pieces.items c.loop-index.index _ piece (drop at named) (drop place topic) _ (omega (arith, c.loop-index-test.true, c.len-index-end.ensures)) c.index-piece.ensures c.loop-index.invariant.going in
    omega (arith, padded (piece ∷ more) (drop at named) (drop place topic) _ g, length-drop at named, ap length c.as_slice-named.ensures.value)

pub slice_bounds-begin_alike-start : goal.slice_bounds-begin_alike-start
slice_bounds-begin_alike-start c =
    let topic = components c.args.topic.now in
    let named = c.args.deep.now.named.items in
    let place = c.loop-index.place in
    let at = c.loop-index.at in
    let piece = c.index-piece.result.now in
    let more = drop (c.loop-index.index + 1) c.args.deep.now.pieces.items in
    let g : Going (piece ∷ more) (drop at named) (drop place topic) (fits (components c.args.text.now) topic) =
    at_piece c.args.deep.now.pieces.items c.loop-index.index _ piece (drop at named) (drop place topic) _ (omega (arith, c.loop-index-test.true, c.len-index-end.ensures)) c.index-piece.ensures c.loop-index.invariant.going in
    omega (arith, padded (piece ∷ more) (drop at named) (drop place topic) _ g, length-drop at named, ap length c.as_slice-named.ensures.value)

pub slice_bounds-begin_alike-count-in-loop-index : goal.slice_bounds-begin_alike-count-in-loop-index
slice_bounds-begin_alike-count-in-loop-index c =
    let topic = components c.args.topic.now in
    omega (arith, step_within c.args.starts.now c.args.dotted.now topic c.loop-index.place _ c.requires.starts c.requires.dotted c.loop-index.invariant.place c.start_at-from.ensures.start)

pub slice_bounds-begin_alike-start-in-loop-index : goal.slice_bounds-begin_alike-start-in-loop-index
slice_bounds-begin_alike-start-in-loop-index c =
    let topic = components c.args.topic.now in
    omega (arith, step_within c.args.starts.now c.args.dotted.now topic c.loop-index.place _ c.requires.starts c.requires.dotted c.loop-index.invariant.place c.start_at-from.ensures.start)

pub begin_alike-requires-clause-other : goal.begin_alike-requires-clause-other
begin_alike-requires-clause-other c =
    let topic = components c.args.topic.now in
    let place = c.loop-index.place in
    let other_is = step_octets c.args.starts.now c.args.dotted.now topic place _ c.requires.starts c.requires.dotted c.loop-index.invariant.place c.start_at-from.ensures.start in
    omega (arith, ap length other_is, length-append (ended (drop place topic)) padding)

pub begin_alike-requires-clause-within : goal.begin_alike-requires-clause-within
begin_alike-requires-clause-within c =
    let topic = components c.args.topic.now in
    let named = c.args.deep.now.named.items in
    let place = c.loop-index.place in
    let at = c.loop-index.at in
    let piece = c.index-piece.result.now in
    let more = drop (c.loop-index.index + 1) c.args.deep.now.pieces.items in
    let g : Going (piece ∷ more) (drop at named) (drop place topic) (fits (components c.args.text.now) topic) =
    at_piece c.args.deep.now.pieces.items c.loop-index.index _ piece (drop at named) (drop place topic) _ (omega (arith, c.loop-index-test.true, c.len-index-end.ensures)) c.index-piece.ensures c.loop-index.invariant.going in
    let is : IsCount piece (drop place topic) c.count_at-count.result =
    step_count c.args.starts.now topic piece place c.count_at-count.result c.requires.starts (λ h. alone_in piece more (drop at named) topic place _ c.loop-index.invariant.place g h) c.count_at-count.ensures.short c.count_at-count.ensures.alone in
    let other_is = step_octets c.args.starts.now c.args.dotted.now topic place _ c.requires.starts c.requires.dotted c.loop-index.invariant.place c.start_at-from.ensures.start in
    omega (arith, ap length other_is, count_within piece (drop place topic) c.count_at-count.result is)

pub returns-then-not-begin_alike : goal.returns-then-not-begin_alike
returns-then-not-begin_alike c =
    let topic = components c.args.topic.now in
    let named = c.args.deep.now.named.items in
    let place = c.loop-index.place in
    let at = c.loop-index.at in
    let piece = c.index-piece.result.now in
    let more = drop (c.loop-index.index + 1) c.args.deep.now.pieces.items in
    let g : Going (piece ∷ more) (drop at named) (drop place topic) (fits (components c.args.text.now) topic) =
    at_piece c.args.deep.now.pieces.items c.loop-index.index _ piece (drop at named) (drop place topic) _ (omega (arith, c.loop-index-test.true, c.len-index-end.ensures)) c.index-piece.ensures c.loop-index.invariant.going in
    let is : IsCount piece (drop place topic) c.count_at-count.result =
    step_count c.args.starts.now topic piece place c.count_at-count.result c.requires.starts (λ h. alone_in piece more (drop at named) topic place _ c.loop-index.invariant.place g h) c.count_at-count.ensures.short c.count_at-count.ensures.alone in
    let other_is = step_octets c.args.starts.now c.args.dotted.now topic place _ c.requires.starts c.requires.dotted c.loop-index.invariant.place c.start_at-from.ensures.start in
    let count = c.count_at-count.result in
    let one_is = rest_is at c.as_slice-named.result.now ∙ ap (λ o. drop at o) c.as_slice-named.ensures.value in
    let alike = ap₂ (λ a b. bytes_eq (take count a) (take count b)) (sym one_is) (sym other_is) in
    sym (piece_differs piece more (drop at named) (drop place topic) _ count g is (alike ∙ sym c.if-not-begin_alike.ensures.alike))

pub overflow_add-place : goal.overflow_add-place
overflow_add-place c =
    let topic = components c.args.topic.now in
    let named = c.args.deep.now.named.items in
    let place = c.loop-index.place in
    let at = c.loop-index.at in
    let piece = c.index-piece.result.now in
    let more = drop (c.loop-index.index + 1) c.args.deep.now.pieces.items in
    let g : Going (piece ∷ more) (drop at named) (drop place topic) (fits (components c.args.text.now) topic) =
    at_piece c.args.deep.now.pieces.items c.loop-index.index _ piece (drop at named) (drop place topic) _ (omega (arith, c.loop-index-test.true, c.len-index-end.ensures)) c.index-piece.ensures c.loop-index.invariant.going in
    omega (arith, piece_in piece more (drop at named) topic place _ c.loop-index.invariant.place g, ap length c.requires.starts, starts-length 0 topic, c.start_at-from.ensures.countable)

pub loop-index-preserved : goal.loop-index-preserved
loop-index-preserved c =
    let topic = components c.args.topic.now in
    let named = c.args.deep.now.named.items in
    let place = c.loop-index.place in
    let at = c.loop-index.at in
    let piece = c.index-piece.result.now in
    let more = drop (c.loop-index.index + 1) c.args.deep.now.pieces.items in
    let g : Going (piece ∷ more) (drop at named) (drop place topic) (fits (components c.args.text.now) topic) =
    at_piece c.args.deep.now.pieces.items c.loop-index.index _ piece (drop at named) (drop place topic) _ (omega (arith, c.loop-index-test.true, c.len-index-end.ensures)) c.index-piece.ensures c.loop-index.invariant.going in
    let is : IsCount piece (drop place topic) c.count_at-count.result =
    step_count c.args.starts.now topic piece place c.count_at-count.result c.requires.starts (λ h. alone_in piece more (drop at named) topic place _ c.loop-index.invariant.place g h) c.count_at-count.ensures.short c.count_at-count.ensures.alone in
    let other_is = step_octets c.args.starts.now c.args.dotted.now topic place _ c.requires.starts c.requires.dotted c.loop-index.invariant.place c.start_at-from.ensures.start in
    let count = c.count_at-count.result in
    let one_is = rest_is at c.as_slice-named.result.now ∙ ap (λ o. drop at o) c.as_slice-named.ensures.value in
    let alike = ap₂ (λ a b. bytes_eq (take count a) (take count b)) (sym one_is) (sym other_is) in
    record {
      place = omega (arith, piece_in piece more (drop at named) topic place _ c.loop-index.invariant.place g);
      going = step_passed piece more (drop at named) _ topic place _ count _ (c.components_joined.ensures.no_dot c.args.topic.now) g is (alike ∙ sym c.if-not-begin_alike.ensures.alike) (sym (drop-drop count at named)) (omega arith);
    }

pub returns : goal.returns
returns c = sym (at_end c.args.deep.now.pieces.items c.loop-index.index (drop c.loop-index.at c.args.deep.now.named.items) (drop c.loop-index.place (components c.args.topic.now)) _ (omega (arith, c.loop-index-test.false, c.len-index-end.ensures)) c.loop-index.invariant.going)
