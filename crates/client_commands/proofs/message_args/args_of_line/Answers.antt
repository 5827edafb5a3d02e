use Rattle.std.proofs.Common.{◌≡◌, ◌∙◌, inr, ap, refl, subst}
use Rattle.message_tree.specs.Data.{list, item, no_items}
use Rattle.message_tree.specs.View.{items_view, view}
use Rattle.message_tree.proofs.Constructors.{view-List}
use Rattle.client_commands.specs.Ends.{AreUncarried, arguments_of}
use Rattle.client_commands.specs.Values.{IsValueOf}
use Rattle.client_commands.proofs.message_args.args_of_line.Goals as goal

pub returns-in-Err-Usage-clause-unread : goal.returns-in-Err-Usage-clause-unread
returns-in-Err-Usage-clause-unread c =
    let value = view c.in_ok-value.value in
    let kwargs = c.args.kwargs.now in
    let are : c.of-args.result ≡ list (item value no_items) = c.of-args.ensures ∙ view-List c.in_ok-vec.field-0 ∙ ap (λ xs. list (items_view xs)) c.in_ok-vec.ensures.items in
    let uncarried = c.in-Err-Usage.ensures.uncarried (cc (c.in-Err-Usage.field-0-is)) in
    λ _. (
      refl,
      inr (record {
        args = arguments_of (list (item value no_items)) kwargs;
        are = record { value = value; is_value = subst (λ l. IsValueOf l value) c.in-Ok.ensures.cases.0 c.in_ok-value.ensures.value; are = refl };
        uncarried = subst (λ d. AreUncarried (arguments_of d kwargs)) are uncarried;
      }),
    )
