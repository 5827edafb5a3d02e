use Rattle.std.proofs.Common.{◌∙◌, subst}
use Rattle.realm_inbox.specs.InTurn.{Agrees}
use Rattle.realm_inbox.proofs.LentSteps.{lends_reader, goes_by, comes_by, in_one_hand, leaves_by, stays, returns_by, back_again, learns_by, reader_left}
use Rattle.realm_inbox.proofs.compared.compare_passes.Goals as goal

pub another-lent-requires-clause-rule : goal.another-lent-requires-clause-rule
another-lent-requires-clause-rule g c = goes_by _ _ (lends_reader _ _ c.requires.reading.1 c.requires.posting.1) _

pub absorb-requires-clause-rule : goal.absorb-requires-clause-rule
absorb-requires-clause-rule g c = comes_by _ _ (lends_reader _ _ c.requires.reading.1 c.requires.posting.1) _ c.another-lent.ensures.rule.1 _ _

pub learn_as-requires-clause-rule : goal.learn_as-requires-clause-rule
learn_as-requires-clause-rule g c =
    learns_by _ _ _ _ c.requires.reading.1 c.requires.posting.1 (in_one_hand _ _ (lends_reader _ _ c.requires.reading.1 c.requires.posting.1) _ c.another-lent.ensures.rule.1 _ c.absorb.ensures.rule)

pub another-back-requires-clause-rule : goal.another-back-requires-clause-rule
another-back-requires-clause-rule g c =
    leaves_by _ _ (lends_reader _ _ c.requires.reading.1 c.requires.posting.1) _ c.another-lent.ensures.rule.1 _ (c.learn_as.ensures.channel.2 ∙ c.absorb.ensures.rule) _

pub absorb-requires-2-clause-rule : goal.absorb-requires-2-clause-rule
absorb-requires-2-clause-rule g c =
    returns_by _ _ (lends_reader _ _ c.requires.reading.1 c.requires.posting.1) _ c.another-lent.ensures.rule.1 _ (c.learn_as.ensures.channel.2 ∙ c.absorb.ensures.rule) _ _ c.another-lent.ensures.rule.0 c.another-back.ensures.rule.1 _ _

pub returns-clause-agree : goal.returns-clause-agree
returns-clause-agree g c =
    subst (λ b. Agrees b) (in_one_hand _ _ (lends_reader _ _ c.requires.reading.1 c.requires.posting.1) _ c.another-lent.ensures.rule.1 _ c.absorb.ensures.rule) c.learn_as.ensures.rule.1

pub returns-clause-reading : goal.returns-clause-reading
returns-clause-reading g c = (
  c.another-back.ensures.channel.0,
  stays _ _ (lends_reader _ _ c.requires.reading.1 c.requires.posting.1) _ c.another-lent.ensures.rule.1 _ (c.learn_as.ensures.channel.2 ∙ c.absorb.ensures.rule) _ c.another-back.ensures.rule.0
      ∙ reader_left _ _ c.requires.reading.1 c.requires.posting.1,
)

pub returns-clause-posting : goal.returns-clause-posting
returns-clause-posting g c = (
  c.absorb-2.ensures.channel.0,
  back_again _ _ (lends_reader _ _ c.requires.reading.1 c.requires.posting.1) _ c.another-lent.ensures.rule.1 _ (c.learn_as.ensures.channel.2 ∙ c.absorb.ensures.rule)
      _ _ c.another-lent.ensures.rule.0 c.another-back.ensures.rule.1 _ c.absorb-2.ensures.rule,
)
