use Rattle.std.proofs.Common.{refl}
use Rattle.client_messages.specs.Wishes.{publish_options}
use Rattle.client_messages.proofs.Wished.{acknowledge-asked, disclose_me-asked, retain-asked, audience-asked, publish_options-shallow}
use Rattle.client_messages.proofs.wishes.PublishWishes.options.Goals as goal

pub returns-clause-entries : goal.returns-clause-entries
unfolding publish_options
returns-clause-entries c =
    rw (
      c.of.ensures,
      c.in_ok-put_some-4.ensures.ok,
      c.flag_wish-3.ensures,
      c.in_ok-put_some-3.ensures.ok,
      c.flag_wish-2.ensures,
      c.in_ok-put_lists-2.ensures.ok,
      c.in_ok-put_lists.ensures.ok,
      c.in_ok-put_some-2.ensures.ok,
      c.exclude_me_wish.ensures,
      c.in_ok-put_some.ensures.ok,
      c.flag_wish.ensures,
      c.new-dict.ensures,
    )
    refl

pub returns-clause-acknowledge : goal.returns-clause-acknowledge
returns-clause-acknowledge c = rw (returns-clause-entries c) (acknowledge-asked c.args.self.now)

pub returns-clause-disclose_me : goal.returns-clause-disclose_me
returns-clause-disclose_me c = rw (returns-clause-entries c) (disclose_me-asked c.args.self.now)

pub returns-clause-retain : goal.returns-clause-retain
returns-clause-retain c = rw (returns-clause-entries c) (retain-asked c.args.self.now)

pub returns-clause-audience : goal.returns-clause-audience
returns-clause-audience c = rw (returns-clause-entries c) (audience-asked c.args.self.now c.in_ok-put_lists.ensures.in_range c.in_ok-put_lists-2.ensures.in_range)

pub returns-clause-shallow : goal.returns-clause-shallow
returns-clause-shallow c = rw (returns-clause-entries c) (publish_options-shallow c.args.self.now)
