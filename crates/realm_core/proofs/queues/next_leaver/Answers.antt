use Rattle.std.specs.List.{filter}
use Rattle.realm.specs.Sessions.{live}
use Rattle.realm_core.proofs.FirstAndLeast.{least-unless}
use Rattle.realm_core.proofs.queues.next_leaver.Goals as goal

pub returns-in-None : goal.returns-in-None
returns-in-None c = least-unless c.args.pushing.now.items (filter (live c.args.realm.now) c.args.marks.now) c.least_live.result c.in-None.ensures c.least_live.ensures
