use Rattle.std.proofs.Common.{ap, ◌∙◌}
use Rattle.message_tree.specs.Data.{item}
use Rattle.message_tree.specs.View.{view, dict_view}
use Rattle.message_tree.proofs.Constructors.{view-Dict}
use Rattle.session.specs.FromClient.{dict_of, first}
use Rattle.session.proofs.messages.tree_elements.TreeElementsMessageElements.pass_dict.Goals as goal

pub returns-in-Some-Dict-clause-ok : goal.returns-in-Some-Dict-clause-ok
returns-in-Some-Dict-clause-ok c =
    let new = c.next.new.self in
    let is = c.in-Some-Dict.ensures.first ∙ (ap (λ x. item (view x) new) c.in-Some-Dict.field-0-is ∙ ap (λ d. item d new) (view-Dict c.in-Some-Dict.field-0-0)) in
    (dict_view c.in-Some-Dict.field-0-0, ap (first dict_of) is)
