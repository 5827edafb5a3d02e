use Rattle.realm_actor.proofs.row_search.find_near.Goals as goal

pub returns-then-is_at : goal.returns-then-is_at
returns-then-is_at g c = c.is_at.ensures.yes c.if-is_at.true

pub returns-then-is_at-2 : goal.returns-then-is_at-2
returns-then-is_at-2 g c = c.is_at-then-near-rows.ensures.yes c.if-is_at-2.true
