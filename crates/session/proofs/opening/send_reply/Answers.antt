use Rattle.session.proofs.opening.send_reply.Goals as goal

pub returns-in-Some-clause-writes : goal.returns-in-Some-clause-writes
returns-in-Some-clause-writes g c = c.send.ensures.writes
