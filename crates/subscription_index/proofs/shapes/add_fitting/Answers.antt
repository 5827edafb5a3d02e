use Rattle.std.proofs.Common.{◌≡◌, ℕ, List, ◌∷◌, [], map, ap, ◌∙◌, subst}
use Rattle.std.proofs.lemmas.Map.Iter.{rest_more, rest_all}
use Rattle.std.specs.Map.Iter.{deref_pair}
use Rattle.wamp_ids.specs.Uri.{components}
use Rattle.subscription_index.specs.body.Found.{Adds}
use Rattle.subscription_index.specs.body.Tables.{number_at}
use Rattle.subscription_index.proofs.ShapesLemmas.{Shaped, is_sought, ShapesLeadTo, shapes_more, shapes_all}
use Rattle.subscription_index.proofs.shapes.add_fitting.Goals as goal

pub loop-shape-preserved : goal.loop-shape-preserved
loop-shape-preserved c =
    let left : c.loop-shape.shape-iterator ≡ (c.in-Some.shape.now, c.in-Some.table.now) ∷ c.next.new.self = rest_more deref_pair _ _ _ _ c.in-Some.is c.next.ensures.steps in
    let parts : map (λ p. p.now) c.deref.result.now ≡ components c.args.topic.now = ap (λ ps. map (λ p. p.now) ps) c.deref.ensures.value ∙ c.in_ok-parts.ensures in
    shapes_more c.args.shapes.now.entries c.next.new.self c.in-Some.shape.now c.in-Some.table.now (components c.args.topic.now) c.args.numbers.now.items c.loop-shape.numbers.items c.add_shaped.new.numbers.items
    (subst (λ (es : List Shaped). ShapesLeadTo c.args.shapes.now.entries es (components c.args.topic.now) c.args.numbers.now.items c.loop-shape.numbers.items) left c.loop-shape.invariant)
    (subst (λ (ps : List (List ℕ)). Adds (number_at c.in-Some.table.now) (is_sought c.in-Some.shape.now ps) c.loop-shape.numbers.items c.add_shaped.new.numbers.items) parts c.in_ok-add_shaped.ensures)

pub returns : goal.returns
returns c =
    let left : c.loop-shape.shape-iterator ≡ [] = rest_all deref_pair _ _ _ c.in-None.is c.next.ensures.steps in
    shapes_all c.args.shapes.now.entries (components c.args.topic.now) c.args.numbers.now.items c.loop-shape.numbers.items
    (subst (λ (es : List Shaped). ShapesLeadTo c.args.shapes.now.entries es (components c.args.topic.now) c.args.numbers.now.items c.loop-shape.numbers.items) left c.loop-shape.invariant)
