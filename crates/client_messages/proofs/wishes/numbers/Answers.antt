use Rattle.std.proofs.Common.{ap, ◌∙◌, subst}
use Rattle.std.proofs.lemmas.List.{take_all}
use Rattle.std.specs.List.{AllByRecursion}
use Rattle.message_tree.specs.Data.{list}
use Rattle.message_tree.proofs.Constructors.{view-List}
use Rattle.wamp_ids.specs.Numbers.{IsId}
use Rattle.session.specs.ToClient.{number}
use Rattle.client_messages.specs.Wishes.{numbers}
use Rattle.client_messages.proofs.NumberItems.{next_number, all_next}
use Rattle.client_messages.proofs.wishes.numbers.Goals as goal

pub loop-one-preserved : goal.loop-one-preserved
loop-one-preserved c =
    rw c.in_ok-push.ensures.items (
      next_number _ _ _ _ _ c.loop-one-test.true c.one-item.is c.loop-one.invariant.0 (c.number.ensures ∙ ap number c.value.ensures.number),
      all_next _ _ _ _ c.loop-one-test.true c.one-item.is c.loop-one.invariant.1 (subst IsId c.value.ensures.number c.value.ensures.in_range),
    )

pub returns : goal.returns
returns c =
    let all : _ = take_all _ _ c.loop-one-test.false ∙ c.deref-one-items.ensures.value
    in record {
      ok = view-List _ ∙ ap list (c.loop-one.invariant.0 ∙ ap numbers all);
      in_range = subst (AllByRecursion IsId) all c.loop-one.invariant.1;
    }
