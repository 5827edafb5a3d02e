use Rattle.std.proofs.Common.{◌∙◌}
use Rattle.realm_inbox.proofs.LentSteps.{lends_door, goes_by, comes_by, leaves_by, stays, returns_by, back_again, door_shown}
use Rattle.realm_inbox.proofs.door.show_pass.Goals as goal

pub another-lent-requires-clause-rule : goal.another-lent-requires-clause-rule
another-lent-requires-clause-rule g c = goes_by _ _ (lends_door _ _ c.requires.door.1 c.requires.posting.1 c.requires.number) _

pub absorb-requires-clause-rule : goal.absorb-requires-clause-rule
absorb-requires-clause-rule g c = comes_by _ _ (lends_door _ _ c.requires.door.1 c.requires.posting.1 c.requires.number) _ c.another-lent.ensures.rule.1 _ _

pub another-back-requires-clause-rule : goal.another-back-requires-clause-rule
another-back-requires-clause-rule g c =
    leaves_by _ _ (lends_door _ _ c.requires.door.1 c.requires.posting.1 c.requires.number) _ c.another-lent.ensures.rule.1 _ c.absorb.ensures.rule _

pub absorb-requires-2-clause-rule : goal.absorb-requires-2-clause-rule
absorb-requires-2-clause-rule g c =
    returns_by _ _ (lends_door _ _ c.requires.door.1 c.requires.posting.1 c.requires.number) _ c.another-lent.ensures.rule.1 _ c.absorb.ensures.rule _ _ c.another-lent.ensures.rule.0 c.another-back.ensures.rule.1 _ _

pub returns-clause-shown : goal.returns-clause-shown
returns-clause-shown g c =
    (door_shown _ _ _ c.requires.door.1 c.requires.posting.1
    (stays _ _ (lends_door _ _ c.requires.door.1 c.requires.posting.1 c.requires.number) _ c.another-lent.ensures.rule.1 _ c.absorb.ensures.rule _ c.another-back.ensures.rule.0)).0

pub returns-clause-door : goal.returns-clause-door
returns-clause-door g c =
    let t = door_shown _ _ _ c.requires.door.1 c.requires.posting.1
    (stays _ _ (lends_door _ _ c.requires.door.1 c.requires.posting.1 c.requires.number) _ c.another-lent.ensures.rule.1 _ c.absorb.ensures.rule _ c.another-back.ensures.rule.0) in
    (c.another-back.ensures.channel.0, t.1, t.2, t.3)

pub returns-clause-posting : goal.returns-clause-posting
returns-clause-posting g c = (
  c.absorb-2.ensures.channel.0,
  back_again _ _ (lends_door _ _ c.requires.door.1 c.requires.posting.1 c.requires.number) _ c.another-lent.ensures.rule.1 _ c.absorb.ensures.rule
      _ _ c.another-lent.ensures.rule.0 c.another-back.ensures.rule.1 _ c.absorb-2.ensures.rule,
)
