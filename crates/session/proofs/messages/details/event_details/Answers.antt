use Rattle.std.proofs.Common.{refl}
use Rattle.session.specs.ToClient.{event_details}
use Rattle.session.proofs.DetailsLemmas.{event_details_are_shallow, event_details_are_carried}
use Rattle.session.proofs.messages.details.event_details.Goals as goal

pub returns-clause-ok : goal.returns-clause-ok
unfolding event_details
returns-clause-ok c = rw (c.in_ok-put_if-2.ensures.ok, c.in_ok-put_text_if-3.ensures.ok, c.in_ok-put_text_if-2.ensures.ok, c.in_ok-put_if.ensures.ok, c.in_ok-put_text_if.ensures.ok, c.new-dict.ensures, c.truth.ensures, c.number-id.ensures.value, c.value-3.ensures.number, c.as_str-authid.ensures, c.as_str-authrole.ensures, c.value.ensures, c.value-2.ensures, c.text.ensures.same) refl

pub returns-clause-bounded : goal.returns-clause-bounded
returns-clause-bounded c = rw (returns-clause-ok c) (event_details_are_shallow _ _ _)

pub returns-clause-carried : goal.returns-clause-carried
returns-clause-carried c = rw (returns-clause-ok c) (event_details_are_carried _ _ _ (rw (c.number-id.ensures.value, c.value-3.ensures.number) at c.number-id.ensures.carried))
