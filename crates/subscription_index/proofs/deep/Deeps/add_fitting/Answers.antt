use Rattle.std.proofs.Common.{◌≡◌, ◌++◌, ◌∷◌, cond, [], sym, ap, subst, ◌∙◌}
use Rattle.std.proofs.lemmas.List.{append-nil}
use Rattle.std.proofs.lemmas.Map.Iter.{rest_more, rest_all}
use Rattle.std.specs.Map.Iter.{deref_pair}
use Rattle.wamp_ids.specs.Uri.{components}
use Rattle.wamp_ids.specs.Pattern.{fits}
use Rattle.subscription_index.specs.body.Found.{Adds}
use Rattle.subscription_index.specs.body.Pieces.{AreMade, IsMade, numbers_of, deep_number}
use Rattle.subscription_index.proofs.WildcardPlaces.{fitting, fitting_more, adds_listed}
use Rattle.subscription_index.proofs.deep.Deeps.add_fitting.Goals as goal

pub add_if_fits-requires-clause-made : goal.add_if_fits-requires-clause-made
add_if_fits-requires-clause-made c =
    let here : c.loop-text.text-iterator ≡ (c.in-Some.text.now, c.in-Some.deep.now) ∷ c.next.new.self = rest_more deref_pair _ _ _ (c.in-Some.text, c.in-Some.deep) c.in-Some.is c.next.ensures.steps in
    subst (λ t. IsMade c.in-Some.deep.now t) (sym c.deref.ensures.value) (subst AreMade here c.loop-text.invariant.made).0

pub loop-text-preserved : goal.loop-text-preserved
loop-text-preserved c =
    let topic = components c.args.topic.now in
    let here : c.loop-text.text-iterator ≡ (c.in-Some.text.now, c.in-Some.deep.now) ∷ c.next.new.self = rest_more deref_pair _ _ _ (c.in-Some.text, c.in-Some.deep) c.in-Some.is c.next.ensures.steps in
    record {
      found = fitting_more c.loop-text.numbers.items c.add_if_fits.new.numbers.items (c.in-Some.text.now, c.in-Some.deep.now.number) (numbers_of c.next.new.self) topic _
          (c.in_ok-add_if_fits.ensures ∙ ap (λ t. cond (fits (components t) topic) (c.loop-text.numbers.items ++ c.in-Some.deep.now.number ∷ []) c.loop-text.numbers.items) c.deref.ensures.value)
          (ap (λ es. c.loop-text.numbers.items ++ fitting (numbers_of es) topic) (sym here) ∙ c.loop-text.invariant.found);
      made = (subst AreMade here c.loop-text.invariant.made).1;
    }

pub returns : goal.returns
returns c =
    let topic = components c.args.topic.now in
    let left : c.loop-text.text-iterator ≡ [] = rest_all deref_pair _ _ _ c.in-None.is c.next.ensures.steps in
    let found = sym (append-nil c.loop-text.numbers.items) ∙ (ap (λ es. c.loop-text.numbers.items ++ fitting (numbers_of es) topic) (sym left) ∙ (c.loop-text.invariant.found ∙ ap (λ es. c.args.numbers.now.items ++ fitting es topic) (sym c.self.view_is))) in
    subst (λ es. Adds (deep_number es) (λ q. fits (components q) topic) c.args.numbers.now.items c.loop-text.numbers.items) c.self.view_is
    (adds_listed c.self.inside.table.entries topic c.args.numbers.now.items c.loop-text.numbers.items c.len.ensures.ordered found)
