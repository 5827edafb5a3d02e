use Rattle.realm_inbox.proofs.LentSteps.{lends_reader, goes_by, comes_by, posts_lend}
use Rattle.realm_inbox.proofs.BesideSteps.{receives_beside, forks_after, returns_after, seat_after, reader_after, all_received}
use Rattle.realm_inbox.proofs.beside.receive_passes.Goals as goal

pub another-lent-requires-clause-rule : goal.another-lent-requires-clause-rule
another-lent-requires-clause-rule g c = goes_by _ _ (lends_reader _ _ c.requires.reading.2 (posts_lend _ c.requires.posting.1)) _

pub absorb-requires-clause-rule : goal.absorb-requires-clause-rule
absorb-requires-clause-rule g c = comes_by _ _ (lends_reader _ _ c.requires.reading.2 (posts_lend _ c.requires.posting.1)) _ c.another-lent.ensures.rule.1 _ _

pub try_recv_as-found-requires-clause-rule : goal.try_recv_as-found-requires-clause-rule
try_recv_as-found-requires-clause-rule g c = receives_beside _ _ _ _ c.requires.reading.2 c.requires.posting.1 c.another-lent.ensures.rule.1 c.absorb.ensures.rule _

pub another-back-requires-clause-rule : goal.another-back-requires-clause-rule
another-back-requires-clause-rule g c =
    forks_after _ _ _ _ c.requires.reading.2 c.requires.posting.1 c.another-lent.ensures.rule.1 c.absorb.ensures.rule _ _ _ c.try_recv_as-found.ensures.rule

pub absorb-requires-2-clause-rule : goal.absorb-requires-2-clause-rule
absorb-requires-2-clause-rule g c =
    returns_after _ _ _ _ c.requires.reading.2 c.requires.posting.1 c.another-lent.ensures.rule.1 c.absorb.ensures.rule _ _ _ _ c.try_recv_as-found.ensures.rule c.another-lent.ensures.rule.0 c.another-back.ensures.rule.1 _ _

pub returns-clause-found : goal.returns-clause-found
returns-clause-found g c =
    reader_after _ _ _ _ c.requires.reading.2 c.requires.posting.1 c.another-lent.ensures.rule.1 c.absorb.ensures.rule _ _ _ c.try_recv_as-found.ensures.rule c.another-back.ensures.rule.0

pub returns-clause-all : goal.returns-clause-all
returns-clause-all g c =
    all_received _ _ _ _ c.requires.reading.2 c.requires.posting.1 c.another-lent.ensures.rule.1 c.absorb.ensures.rule _ _ c.try_recv_as-found.ensures.rule

pub returns-clause-posting : goal.returns-clause-posting
returns-clause-posting g c = (
  c.absorb-2.ensures.channel.0,
  seat_after _ _ _ _ c.requires.reading.2 c.requires.posting.1 c.another-lent.ensures.rule.1 c.absorb.ensures.rule _ _ _ _ c.try_recv_as-found.ensures.rule c.another-lent.ensures.rule.0 c.another-back.ensures.rule.1 _ c.absorb-2.ensures.rule,
)
