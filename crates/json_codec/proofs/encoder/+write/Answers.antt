use Rattle.std.proofs.Common.{◌≡◌, ◌≤◌, ◌<◌, length, get_or, sym, ap, ◌∙◌, subst, arith}
use Rattle.std.proofs.lemmas.Bool.{and_parts}
use Rattle.message_tree.specs.Data.{depth, items_depth, is_carried, items_carried}
use Rattle.message_tree.specs.View.{view, items_view}
use Rattle.message_tree.proofs.Lemmas.{items_from, depth_at}
use Rattle.json_codec.proofs.encoder.+write.Goals as goal

pub write_items-write_tree-requires : goal.write_items-write_tree-requires
write_items-write_tree-requires t c =
    let l = c.loop-item in
    let ts = c.args.items.now.items in
    let i = l.item-index in
    let read : c.deref-item-items.result.now ≡ ts = c.deref-item-items.ensures.value in
    let inside : i < length ts = omega (arith, ap length read, c.loop-item-test.true) in
    let is : c.item-item.result ≡ get_or ts i c.item-item.result = c.item-item.is ∙ ap (λ xs. get_or xs i c.item-item.result) read in
    let within : depth (view c.item-item.result) ≤ items_depth (items_view ts) =
    subst (λ x. depth (view x) ≤ items_depth (items_view ts)) (sym is) (depth_at ts i c.item-item.result inside) in
    let carried = ap items_carried (sym (items_from ts i c.item-item.result inside)) ∙ l.invariant.carried in
    (omega (arith, within, c.decreases), ap (λ x. is_carried (view x)) is ∙ (and_parts _ _ carried).0)
