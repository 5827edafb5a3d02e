use Rattle.realm_actor.proofs.state.ActorState.act.Goals as goal

pub join-requires-clause-own : goal.join-requires-clause-own
join-requires-clause-own g c = c.into_parts-conn.ensures.own _ c.in-Join.is
