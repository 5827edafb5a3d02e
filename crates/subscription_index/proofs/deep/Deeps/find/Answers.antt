use Rattle.std.proofs.Common.{◌∙◌, sym, ap, option_map}
use Rattle.subscription_index.specs.body.Pieces.{deep_number}
use Rattle.subscription_index.proofs.WildcardPlaces.{number_found}
use Rattle.subscription_index.proofs.deep.Deeps.find.Goals as goal

pub returns-in-None : goal.returns-in-None
returns-in-None c =
    ap (λ o. option_map (λ d. d.number) o) c.in-None.ensures.value ∙ (sym (number_found c.args.text.now c.self.inside.table.entries) ∙ ap (λ es. deep_number es c.args.text.now) c.self.view_is)

pub returns-in-Some : goal.returns-in-Some
returns-in-Some c =
    ap (λ o. option_map (λ d. d.number) o) c.in-Some.ensures.value ∙ (sym (number_found c.args.text.now c.self.inside.table.entries) ∙ ap (λ es. deep_number es c.args.text.now) c.self.view_is)
