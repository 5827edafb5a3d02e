use Rattle.client_session.proofs.encoding.frame_of.Goals as goal

pub returns-in-Err-clause-unsaid : goal.returns-in-Err-clause-unsaid
returns-in-Err-clause-unsaid c = c.in-Err.ensures.unsaid c.args.broker.limit
