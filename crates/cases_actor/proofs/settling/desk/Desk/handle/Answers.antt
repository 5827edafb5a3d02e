use Rattle.cases_actor.proofs.SideLemmas.{goes_handled, homed_here}
use Rattle.cases_actor.proofs.settling.desk.Desk.handle.Goals as goal

pub returns : goal.returns
returns g c = goes_handled _ _ c.handle.result c.in_ok-post.post c.handle.ensures.handles c.in_ok-post.ensures.given c.receive.ensures.same.0

pub handle-requires-clause-home : goal.handle-requires-clause-home
handle-requires-clause-home g c = homed_here c.args.self.now c.in_ok-post.post c.requires.1 c.in_ok-post.ensures.home
