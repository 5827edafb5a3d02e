use Rattle.realm_actor.proofs.RowPlaces.{none_stands}
use Rattle.realm_actor.proofs.row_search.find_number.Goals as goal

pub returns-in-Some : goal.returns-in-Some
returns-in-Some g c = c.in-Some.ensures

pub returns-then-is_at : goal.returns-then-is_at
returns-then-is_at g c = c.is_at.ensures.yes c.if-is_at.true

pub returns-else-is_at : goal.returns-else-is_at
returns-else-is_at g c = none_stands c.args.rows.now c.args.number c.place_by-place.result c.requires c.place_by-place.ensures (c.is_at.ensures.no c.if-is_at.false)
