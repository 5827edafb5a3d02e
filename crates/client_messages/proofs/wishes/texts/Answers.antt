use Rattle.std.proofs.Common.{ap, ◌∙◌}
use Rattle.std.proofs.lemmas.List.{take_all}
use Rattle.message_tree.specs.Data.{list, text}
use Rattle.message_tree.proofs.Constructors.{view-List}
use Rattle.client_messages.specs.Wishes.{texts}
use Rattle.client_messages.proofs.TextItems.{next_one}
use Rattle.client_messages.proofs.wishes.texts.Goals as goal

pub loop-one-preserved : goal.loop-one-preserved
loop-one-preserved c =
    rw c.in_ok-push.ensures.items
    (next_one _ _ _ _ _ c.loop-one-test.true c.one-item.is c.loop-one.invariant (c.in_ok-text.ensures.ok ∙ ap text c.as_str.ensures))

pub returns : goal.returns
returns c = record { ok = view-List _ ∙ ap list (c.loop-one.invariant ∙ ap texts (take_all _ _ c.loop-one-test.false ∙ c.deref-one-items.ensures.value)) }
