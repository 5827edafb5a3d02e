use Rattle.std.proofs.Common.{refl}
use Rattle.client_messages.specs.Wishes.{subscribe_options}
use Rattle.client_messages.proofs.Wished.{policy-asked, get_retained-asked, subscribe_options-shallow}
use Rattle.client_messages.proofs.wishes.SubscribeWishes.options.Goals as goal

pub returns-clause-entries : goal.returns-clause-entries
unfolding subscribe_options
returns-clause-entries c = rw (c.of.ensures, c.in_ok-put_some-2.ensures.ok, c.in_ok-policy_wish.ensures.ok, c.in_ok-put_some.ensures.ok, c.flag_wish.ensures, c.new-dict.ensures) refl

pub returns-clause-policy : goal.returns-clause-policy
returns-clause-policy c = rw (returns-clause-entries c) (policy-asked c.args.self.now)

pub returns-clause-get_retained : goal.returns-clause-get_retained
returns-clause-get_retained c = rw (returns-clause-entries c) (get_retained-asked c.args.self.now)

pub returns-clause-shallow : goal.returns-clause-shallow
returns-clause-shallow c = rw (returns-clause-entries c) (subscribe_options-shallow c.args.self.now)
