use Rattle.std.proofs.Common.{refl}
use Rattle.session.specs.ToClient.{welcome_details}
use Rattle.session.proofs.DetailsLemmas.{welcome_details_are_shallow, welcome_details_are_carried}
use Rattle.session.proofs.messages.details.welcome_details.Goals as goal

pub returns-clause-ok : goal.returns-clause-ok
unfolding welcome_details
returns-clause-ok c = rw (c.in_ok-put_text-2.ensures.ok, c.in_ok-put_text.ensures.ok, c.in_ok-put_dict.ensures.ok, c.new-dict.ensures, c.in_ok-roles.ensures.ok, c.as_str.ensures, c.as_str-2.ensures, c.value.ensures, c.value-2.ensures) refl

pub returns-clause-bounded : goal.returns-clause-bounded
returns-clause-bounded c = rw (returns-clause-ok c) (welcome_details_are_shallow _)

pub returns-clause-carried : goal.returns-clause-carried
returns-clause-carried c = rw (returns-clause-ok c) (welcome_details_are_carried _)
